-- What a line calls for, to a program with one document, and the response.
pub mod Calls
pub mod Responses
