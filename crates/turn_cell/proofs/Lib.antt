pub mod HistoryLemmas
pub mod MeetingLemmas
pub mod NumberLemmas
pub mod SeatLemmas
pub mod StepLemmas
