mod BindLaws
mod ChainLaws
mod ColumnLaws
pub mod ColumnSets
mod Layers
mod PlanFolds
mod PlanLaws
mod SizeLaws
mod SoundLaws
mod TableLaws
mod TypeLaws
mod WorkedLaws
