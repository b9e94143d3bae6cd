pub mod AloneRows
pub mod Answering
pub mod Automatic
pub mod Beginnings
pub mod BlockLists
pub mod BlockMade
pub mod BlockRows
pub mod Causes
pub mod Composites
pub mod DeclaredRows
pub mod Depths
pub mod Each
pub mod Ends
pub mod EntityRows
pub mod FileLists
pub mod Firsts
pub mod Fitting
pub mod FunctionRows
pub mod GivenDepths
pub mod GivenRows
pub mod Growth
pub mod HeadRows
pub mod ItemRows
pub mod LabelRows
pub mod Leaves
pub mod ListedTypes
pub mod Lists
pub mod MainRows
pub mod Members
pub mod Moving
pub mod Named
pub mod NamedBlocks
pub mod NamedGiven
pub mod NamedStatements
pub mod NamedUnits
pub mod Naming
pub mod PlaceRows
pub mod PlainRows
pub mod Resolutions
pub mod ScopedRows
pub mod Singles
pub mod Spaces
pub mod SwitchRows
pub mod Texts
pub mod ValueRows
pub mod ValueWords
pub mod Values
mod WorkedAnswers
mod WorkedConstants
mod WorkedDeclarations
mod WorkedLayouts
mod WorkedPointers
mod WorkedUnits
