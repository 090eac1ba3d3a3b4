-- What the functions rest on, and what is shown of the lines besides.
pub mod OverFacts
pub mod DigitFacts
pub mod SpellFacts
pub mod FieldFacts
pub mod WordFacts
pub mod WriteFacts
pub mod ReadFacts
pub mod AskingFacts
pub mod AskingInverse
pub mod AnswerInverse
