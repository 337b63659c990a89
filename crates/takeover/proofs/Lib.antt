-- What a conversion comes to, from what the calls ensure.
pub mod SourceLaws
