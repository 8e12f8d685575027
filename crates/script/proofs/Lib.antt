pub mod FirstLine
pub mod FrontLaws
pub mod FitLaws
pub mod OneLine
pub mod OneScript
pub mod ReadLaws
pub mod RuleLaws
pub mod ToldLaws
