pub mod PlayingLaws
