mod LengthLaws
mod OutputLaws
mod PieceLaws
mod RowLaws
