mod Ends
mod Words
mod Lives
mod Both
mod TwoRuns
mod Told
