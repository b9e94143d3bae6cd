-- The texts of clauses and reasons, as reports print them.
use Rattle.std.specs.Prelude.{ℕ, List, codes}
use Rattle.pv_fault.specs.declared.faults.Clause.{Clause}
use Rattle.pv_fault.specs.declared.faults.Clause.TheVariants.{Lifetimes, Traps, PointerToInteger, PointerToPointer, PointerToFunction, StringLiterals, Sequencing, Exceptions, EffectiveTypes, Indirection, ZeroDivisors, Quotients, AdditionOfPointers, SubtractionOfPointers, ShiftCounts, LeftShifts, OrderOfPointers, OverlappingAssignment, ConstObjects, MissingValues, LibraryArguments, Formats, Freeing, Reallocating, StringFunctions, MemcpyOverlap, StrcpyOverlap}
use Rattle.pv_fault.specs.declared.faults.Reason.{Reason}
use Rattle.pv_fault.specs.declared.faults.Reason.TheVariants.{Ended, Trap, Range, Misaligned, Readonly, Unsequenced, Overflow, WrongType, Null, Empty, Outside, Divide, Quotient, Apart, Uneven, Count, Shift, Overlap, Value, Format, Block}

-- 3.4.3: the paragraph of C17 that leaves an operation undefined, without the word "paragraph": section, `p`, number
abbrev pub clause_text : Clause → List ℕ
clause_text Lifetimes = codes "6.2.4p2"
clause_text Traps = codes "6.2.6.1p5"
clause_text PointerToInteger = codes "6.3.2.3p6"
clause_text PointerToPointer = codes "6.3.2.3p7"
clause_text PointerToFunction = codes "6.3.2.3p8"
clause_text StringLiterals = codes "6.4.5p7"
clause_text Sequencing = codes "6.5p2"
clause_text Exceptions = codes "6.5p5"
clause_text EffectiveTypes = codes "6.5p7"
clause_text Indirection = codes "6.5.3.2p4"
clause_text ZeroDivisors = codes "6.5.5p5"
clause_text Quotients = codes "6.5.5p6"
clause_text AdditionOfPointers = codes "6.5.6p8"
clause_text SubtractionOfPointers = codes "6.5.6p9"
clause_text ShiftCounts = codes "6.5.7p3"
clause_text LeftShifts = codes "6.5.7p4"
clause_text OrderOfPointers = codes "6.5.8p5"
clause_text OverlappingAssignment = codes "6.5.16.1p3"
clause_text ConstObjects = codes "6.7.3p6"
clause_text MissingValues = codes "6.9.1p12"
clause_text LibraryArguments = codes "7.1.4p1"
clause_text Formats = codes "7.21.6.1p9"
clause_text Freeing = codes "7.22.3.3p2"
clause_text Reallocating = codes "7.22.3.5p3"
clause_text StringFunctions = codes "7.24.1p2"
clause_text MemcpyOverlap = codes "7.24.2.1p2"
clause_text StrcpyOverlap = codes "7.24.2.3p2"

-- the word for the reason; C17 asks for no diagnostic there (3.4.3)
abbrev pub reason_text : Reason → List ℕ
reason_text Ended = codes "ended"
reason_text Trap = codes "trap"
reason_text Range = codes "range"
reason_text Misaligned = codes "misaligned"
reason_text Readonly = codes "readonly"
reason_text Unsequenced = codes "unsequenced"
reason_text Overflow = codes "overflow"
reason_text WrongType = codes "type"
reason_text Null = codes "null"
reason_text Empty = codes "empty"
reason_text Outside = codes "outside"
reason_text Divide = codes "divide"
reason_text Quotient = codes "quotient"
reason_text Apart = codes "apart"
reason_text Uneven = codes "uneven"
reason_text Count = codes "count"
reason_text Shift = codes "shift"
reason_text Overlap = codes "overlap"
reason_text Value = codes "value"
reason_text Format = codes "format"
reason_text Block = codes "block"
