mod OfHalves
mod Doing
mod Telling
mod Joining
mod Copied
mod Anchored
mod Ending
mod Following
