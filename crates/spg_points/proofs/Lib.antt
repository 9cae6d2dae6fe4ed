pub mod PointLemmas
pub mod RestLemmas
pub mod ClassLaws
