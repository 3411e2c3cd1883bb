pub mod CarriedLaws
