pub mod ClaimCalls
pub mod ClaimRule
