pub mod CallLaws
pub mod PairLaws
pub mod QueryLaws
