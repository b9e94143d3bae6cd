use Rattle.std.proofs.Common.{refl, List, [], ◌∷◌}
use Rattle.std.specs.Prelude.{codes}
use Rattle.pv_library.specs.declared.library.Library.TheVariants as library
use Rattle.pv_library.specs.LibraryNames.{NamedFunction, named_function, library_named}
use Rattle.pv_library.proofs.names.library_named.Goals as goal

abbrev rest0 : List NamedFunction
rest0 = []

abbrev rest1 : List NamedFunction
rest1 = named_function (codes "printf") library.Printf ∷ rest0

abbrev rest2 : List NamedFunction
rest2 = named_function (codes "abort") library.Abort ∷ rest1

abbrev rest3 : List NamedFunction
rest3 = named_function (codes "exit") library.Exit ∷ rest2

abbrev rest4 : List NamedFunction
rest4 = named_function (codes "strcpy") library.Strcpy ∷ rest3

abbrev rest5 : List NamedFunction
rest5 = named_function (codes "strcmp") library.Strcmp ∷ rest4

abbrev rest6 : List NamedFunction
rest6 = named_function (codes "strlen") library.Strlen ∷ rest5

abbrev rest7 : List NamedFunction
rest7 = named_function (codes "memcmp") library.Memcmp ∷ rest6

abbrev rest8 : List NamedFunction
rest8 = named_function (codes "memset") library.Memset ∷ rest7

abbrev rest9 : List NamedFunction
rest9 = named_function (codes "memmove") library.Memmove ∷ rest8

abbrev rest10 : List NamedFunction
rest10 = named_function (codes "memcpy") library.Memcpy ∷ rest9

abbrev rest11 : List NamedFunction
rest11 = named_function (codes "realloc") library.Realloc ∷ rest10

abbrev rest12 : List NamedFunction
rest12 = named_function (codes "free") library.Free ∷ rest11

abbrev rest13 : List NamedFunction
rest13 = named_function (codes "calloc") library.Calloc ∷ rest12

pub returns : goal.returns
unfolding library_named
returns c = c.named.ensures rest13 (c.named-r-13.ensures rest12 (c.named-r-12.ensures rest11 (c.named-r-11.ensures rest10 (c.named-r-10.ensures rest9 (c.named-r-9.ensures rest8 (c.named-r-8.ensures rest7 (c.named-r-7.ensures rest6 (c.named-r-6.ensures rest5 (c.named-r-5.ensures rest4 (c.named-r-4.ensures rest3 (c.named-r-3.ensures rest2 (c.named-r-2.ensures rest1 (c.named-r.ensures rest0 refl)))))))))))))
