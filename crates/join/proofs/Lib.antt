pub mod PairLaws
pub mod MemoLaws
pub mod LeafLaws
pub mod SplitLaws
pub mod JoinLaws
pub mod WholeLaws
pub mod TruthLaws
