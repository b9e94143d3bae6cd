-- The text of a program with n objects (6.9.2). Its `main` converts the address of each to an integer (6.3.2.3p6), that integer to a
-- pointer (6.3.2.3p5), and adds the object's value to a sum through that pointer. So each of the n objects is exposed, and each integer
-- is looked up among all that are exposed by then: the cost of such a run is the cost of exposure and of these conversions.
use Rattle.std.specs.Prelude.{ℕ, ◌%◌, List, [], ◌∷◌, ◌++◌, codes}
use Rattle.std.specs.List.{flat_map, range_with_len}
use Rattle.std.specs.Fmt.{decimal}

-- 5.1.1.2p1: each line ends with a new-line character
abbrev pub line : List ℕ → List ℕ
line text = text ++ 10 ∷ []

-- 6.9.2: the definition of object k. Its value is small, and differs from its neighbours'
abbrev pub object_line : ℕ → List ℕ
object_line k = line (codes "int v" ++ decimal k ++ codes " = " ++ decimal (k % 97) ++ codes ";")

-- 6.3.2.3p5, p6: object k is read through a pointer that was made of an integer
abbrev pub use_line : ℕ → List ℕ
use_line k = line (codes "  { unsigned long a = (unsigned long)&v" ++ decimal k ++ codes "; int *p = (int *)a; s = s + *p; }")

-- the program: a sum, the objects 0 to n - 1, then for each of them in that order its use
unfoldable pub source_text : ℕ → List ℕ
source_text n =
    line (codes "unsigned long s;")
    ++ flat_map object_line (range_with_len 0 n)
    ++ line (codes "int main(void) {")
    ++ flat_map use_line (range_with_len 0 n)
    ++ line (codes "  return (int)(s % 251);")
    ++ line (codes "}")
