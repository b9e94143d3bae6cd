-- The clauses of faults, which the report of a suite counts.
use Rattle.std.specs.Prelude.{List, [], ◌∷◌}
use Rattle.pv_fault.specs.declared.faults.Clause.{Clause}
use Rattle.pv_fault.specs.declared.faults.Clause.TheVariants.{Lifetimes, Traps, PointerToInteger, PointerToPointer, PointerToFunction, StringLiterals, Sequencing, Exceptions, EffectiveTypes, Indirection, ZeroDivisors, Quotients, AdditionOfPointers, SubtractionOfPointers, ShiftCounts, LeftShifts, OrderOfPointers, OverlappingAssignment, ConstObjects, MissingValues, LibraryArguments, Formats, Freeing, Reallocating, StringFunctions, MemcpyOverlap, StrcpyOverlap}

-- 3.4.3: the paragraphs that leave an operation undefined, in the order of the standard
abbrev pub every_clause : List Clause
every_clause =
    Lifetimes ∷ Traps ∷ PointerToInteger ∷ PointerToPointer ∷ PointerToFunction ∷ StringLiterals ∷ Sequencing ∷ Exceptions ∷ EffectiveTypes
    ∷ Indirection ∷ ZeroDivisors ∷ Quotients ∷ AdditionOfPointers ∷ SubtractionOfPointers ∷ ShiftCounts ∷ LeftShifts ∷ OrderOfPointers
    ∷ OverlappingAssignment ∷ ConstObjects ∷ MissingValues ∷ LibraryArguments ∷ Formats ∷ Freeing ∷ Reallocating ∷ StringFunctions
    ∷ MemcpyOverlap ∷ StrcpyOverlap ∷ []
