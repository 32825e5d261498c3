pub mod StateLemmas
pub mod SeenLemmas
pub mod TurnLemmas
pub mod HoldLemmas
pub mod HeardLemmas
pub mod LendLemmas
pub mod RoomLemmas
