pub mod NodeLaws
pub mod SimplerLaws
pub mod KnownLaws
