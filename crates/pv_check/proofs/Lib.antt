pub mod ExampleRows
pub mod ExampleContext
mod Examples
mod BinaryExamples
mod FurtherExamples
mod FunctionExamples
pub mod MoreExamples
mod CommonTypes
mod ConditionalExamples
mod QualifierExamples
mod ConstantExamples
mod IncompleteExamples
mod LibraryExamples
mod FormatExamples
mod TagExamples
mod OperandExamples
mod OperatorExamples
pub mod Same
pub mod ScopeLaws
pub mod Keeping
pub mod Lvalues
pub mod Growth
pub mod Opening
pub mod ArmLaws
pub mod Joining
pub mod Showing
pub mod Placing
pub mod Noting
pub mod Literals
pub mod Stepped
pub mod TagRows
pub mod SameTexts
pub mod TypeLists
pub mod PassingRows
pub mod ParameterRows
pub mod Leaving
pub mod DeclaratorRows
pub mod FormRows
pub mod SeenRows
pub mod ListRows
pub mod NodeRows
pub mod CallRows
pub mod Descending
pub mod SpecifierRows
pub mod TypeNameRows
pub mod WordTypes
pub mod Casting
pub mod Completing
pub mod CompositeRows
pub mod MemberRows
pub mod EnumeratorRows
