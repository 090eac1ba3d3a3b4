-- What the functions rest on, and what is shown of a sweep and of a request line besides.
pub mod PointFacts
pub mod SweepFacts
pub mod LineFacts
pub mod NumberFacts
pub mod ReadBack
pub mod OneFacts
pub mod Examples
