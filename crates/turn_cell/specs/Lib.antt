pub mod History
pub mod Lending
pub mod Rule
pub mod Seat
