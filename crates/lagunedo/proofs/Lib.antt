-- Laws of what the calls for C leave behind their pointers, and that their promises determine what they give.
pub mod XtsLaws
pub mod Determined
