pub mod MeetLaws
pub mod SpanLaws
pub mod TestLaws
