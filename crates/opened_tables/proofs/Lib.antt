pub mod OpenedLaws
pub mod PresentLaws
