pub mod Ends
pub mod Lending
pub mod Granting
pub mod Made
pub mod Waiting
pub mod Attempts
pub mod Local
pub mod LocalLending
