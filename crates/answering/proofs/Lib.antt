-- What the functions rest on, and what is shown of answer lines besides.
pub mod LengthRefused
pub mod LineFacts
pub mod AnswerLines
pub mod FeedFacts
pub mod WholeInput
pub mod Examples
pub mod FieldsRead
