-- The context of the first examples of typing.
use Rattle.std.specs.Prelude.{ℕ, pos, true, false, Some, None, List, [], ◌∷◌, codes}
use Rattle.pv_num.specs.declared.kinds.IntKind.TheVariants as kind
use Rattle.pv_types.specs.Ty.{VoidTy, IntTy, PointerTo, ArrayOf, StructTag, UnionTag, FunctionTy, ConstOf, NoTys, MoreTys}
use Rattle.pv_check.specs.State.{State, ObjectName, FunctionName, TypedefOf, ConstantOf, CompositeTag, EnumerationTag}

abbrev source_texts : List (List ℕ)
source_texts =
    (97 ∷ 98 ∷ 99 ∷ []) ∷ (120 ∷ []) ∷ (97 ∷ 98 ∷ 99 ∷ []) ∷ (37 ∷ 100 ∷ 32 ∷ 37 ∷ 115 ∷ 10 ∷ []) ∷ (37 ∷ 102 ∷ []) ∷
    (37 ∷ 108 ∷ 100 ∷ 37 ∷ 37 ∷ []) ∷ (37 ∷ []) ∷ []

abbrev unit_names : List (List ℕ)
unit_names =
    codes "@lit" ∷ codes "@heap" ∷ codes "A" ∷ codes "B" ∷ codes "C" ∷ codes "word" ∷ codes "ch" ∷ codes "sc" ∷ codes "uc" ∷ codes "sh" ∷
    codes "us" ∷ codes "i" ∷ codes "ui" ∷ codes "l" ∷ codes "ul" ∷ codes "ll" ∷ codes "ull" ∷ codes "bo" ∷ codes "ci" ∷ codes "pi" ∷
    codes "pci" ∷ codes "cpi" ∷ codes "pv" ∷ codes "pcv" ∷ codes "pc" ∷ codes "ppi" ∷ codes "a" ∷ codes "ca" ∷ codes "m" ∷ codes "text" ∷
    codes "st" ∷ codes "cst" ∷ codes "pst" ∷ codes "pcst" ∷ codes "node" ∷ codes "pn" ∷ codes "un" ∷ codes "lt" ∷ codes "plt" ∷
    codes "open" ∷ codes "make" ∷ codes "add" ∷ codes "nothing" ∷ codes "find" ∷ codes "printf" ∷ codes "malloc" ∷ codes "free" ∷
    codes "s" ∷ codes "p" ∷ codes "later" ∷ codes "u" ∷ codes "e" ∷ codes "b" ∷ codes "c" ∷ codes "x" ∷ codes "next" ∷ codes "bytes" ∷
    codes "nope" ∷ codes "d" ∷ codes "n" ∷ codes "X" ∷ codes "Y" ∷ codes "Z" ∷ codes "q" ∷ codes "w" ∷ []

abbrev pub context : State
context = record {
  scopes =
      record {
        names =
            (0, ConstantOf (pos 0)) ∷ (1, ConstantOf (pos 5)) ∷ (2, ConstantOf (pos 6)) ∷ (3, TypedefOf (IntTy kind.Int)) ∷
            (4, ObjectName 0) ∷ (5, ObjectName 1) ∷ (6, ObjectName 2) ∷ (7, ObjectName 3) ∷ (8, ObjectName 4) ∷ (9, ObjectName 5) ∷
            (10, ObjectName 6) ∷ (11, ObjectName 7) ∷ (12, ObjectName 8) ∷ (13, ObjectName 9) ∷ (14, ObjectName 10) ∷ (15, ObjectName 11) ∷
            (16, ObjectName 12) ∷ (17, ObjectName 13) ∷ (18, ObjectName 14) ∷ (19, ObjectName 15) ∷ (20, ObjectName 16) ∷
            (21, ObjectName 17) ∷ (22, ObjectName 18) ∷ (23, ObjectName 19) ∷ (24, ObjectName 20) ∷ (25, ObjectName 21) ∷
            (26, ObjectName 22) ∷ (27, ObjectName 23) ∷ (28, ObjectName 24) ∷ (29, ObjectName 25) ∷ (30, ObjectName 26) ∷
            (31, ObjectName 27) ∷ (32, ObjectName 28) ∷ (33, ObjectName 29) ∷ (34, ObjectName 30) ∷ (35, ObjectName 31) ∷
            (36, ObjectName 32) ∷ (37, ObjectName 33) ∷ (38, FunctionName 0) ∷ (39, FunctionName 1) ∷ (40, FunctionName 2) ∷
            (41, FunctionName 3) ∷ (42, FunctionName 4) ∷ (43, FunctionName 5) ∷ (44, FunctionName 6) ∷ [];
        tags =
            (45, CompositeTag false 0) ∷ (46, CompositeTag false 1) ∷ (47, CompositeTag false 2) ∷ (48, CompositeTag true 3) ∷
            (49, EnumerationTag) ∷ [];
      } ∷
      [];
  unit = record {
    names = unit_names;
    headings =
        record { name = None; union = false } ∷
        record { name = None; union = false } ∷
        record { name = None; union = false } ∷
        record { name = None; union = true } ∷
        [];
    completed =
        record {
          tag = 0;
          union = false;
          members =
              record { name = 24; t = (IntTy kind.Int) } ∷
              record { name = 50; t = (ArrayOf (IntTy kind.Char) (Some 4)) } ∷
              record { name = 51; t = (ConstOf (IntTy kind.Int)) } ∷
              [];
        } ∷
        record {
          tag = 1;
          union = false;
          members =
              record { name = 52; t = (IntTy kind.Int) } ∷
              record { name = 53; t = (PointerTo (StructTag 1)) } ∷
              [];
        } ∷
        record {
          tag = 3;
          union = true;
          members =
              record { name = 9; t = (IntTy kind.Int) } ∷
              record { name = 54; t = (ArrayOf (IntTy kind.UChar) (Some 8)) } ∷
              [];
        } ∷
        [];
    objects =
        record { name = 6; t = (IntTy kind.Char); line = 0; lasting = true; braced = false; inits = [] } ∷
        record { name = 7; t = (IntTy kind.SChar); line = 0; lasting = true; braced = false; inits = [] } ∷
        record { name = 8; t = (IntTy kind.UChar); line = 0; lasting = true; braced = false; inits = [] } ∷
        record { name = 9; t = (IntTy kind.Short); line = 0; lasting = true; braced = false; inits = [] } ∷
        record { name = 10; t = (IntTy kind.UShort); line = 0; lasting = true; braced = false; inits = [] } ∷
        record { name = 11; t = (IntTy kind.Int); line = 0; lasting = true; braced = false; inits = [] } ∷
        record { name = 12; t = (IntTy kind.UInt); line = 0; lasting = true; braced = false; inits = [] } ∷
        record { name = 13; t = (IntTy kind.Long); line = 0; lasting = true; braced = false; inits = [] } ∷
        record { name = 14; t = (IntTy kind.ULong); line = 0; lasting = true; braced = false; inits = [] } ∷
        record { name = 15; t = (IntTy kind.LLong); line = 0; lasting = true; braced = false; inits = [] } ∷
        record { name = 16; t = (IntTy kind.ULLong); line = 0; lasting = true; braced = false; inits = [] } ∷
        record { name = 17; t = (IntTy kind.Bool); line = 0; lasting = true; braced = false; inits = [] } ∷
        record { name = 18; t = (ConstOf (IntTy kind.Int)); line = 0; lasting = true; braced = false; inits = [] } ∷
        record { name = 19; t = (PointerTo (IntTy kind.Int)); line = 0; lasting = true; braced = false; inits = [] } ∷
        record { name = 20; t = (PointerTo (ConstOf (IntTy kind.Int))); line = 0; lasting = true; braced = false; inits = [] } ∷
        record { name = 21; t = (ConstOf (PointerTo (IntTy kind.Int))); line = 0; lasting = true; braced = false; inits = [] } ∷
        record { name = 22; t = (PointerTo VoidTy); line = 0; lasting = true; braced = false; inits = [] } ∷
        record { name = 23; t = (PointerTo (ConstOf VoidTy)); line = 0; lasting = true; braced = false; inits = [] } ∷
        record { name = 24; t = (PointerTo (IntTy kind.Char)); line = 0; lasting = true; braced = false; inits = [] } ∷
        record { name = 25; t = (PointerTo (PointerTo (IntTy kind.Int))); line = 0; lasting = true; braced = false; inits = [] } ∷
        record { name = 26; t = (ArrayOf (IntTy kind.Int) (Some 3)); line = 0; lasting = true; braced = false; inits = [] } ∷
        record { name = 27; t = (ArrayOf (ConstOf (IntTy kind.Int)) (Some 2)); line = 0; lasting = true; braced = false; inits = [] } ∷
        record {
          name = 28;
          t = (ArrayOf (ArrayOf (IntTy kind.Int) (Some 3)) (Some 2));
          line = 0;
          lasting = true;
          braced = false;
          inits = [];
        } ∷
        record { name = 29; t = (ArrayOf (IntTy kind.Char) (Some 4)); line = 0; lasting = true; braced = false; inits = [] } ∷
        record { name = 30; t = (StructTag 0); line = 0; lasting = true; braced = false; inits = [] } ∷
        record { name = 31; t = (ConstOf (StructTag 0)); line = 0; lasting = true; braced = false; inits = [] } ∷
        record { name = 32; t = (PointerTo (StructTag 0)); line = 0; lasting = true; braced = false; inits = [] } ∷
        record { name = 33; t = (PointerTo (ConstOf (StructTag 0))); line = 0; lasting = true; braced = false; inits = [] } ∷
        record { name = 34; t = (StructTag 1); line = 0; lasting = true; braced = false; inits = [] } ∷
        record { name = 35; t = (PointerTo (StructTag 1)); line = 0; lasting = true; braced = false; inits = [] } ∷
        record { name = 36; t = (UnionTag 3); line = 0; lasting = true; braced = false; inits = [] } ∷
        record { name = 37; t = (StructTag 2); line = 0; lasting = true; braced = false; inits = [] } ∷
        record { name = 38; t = (PointerTo (StructTag 2)); line = 0; lasting = true; braced = false; inits = [] } ∷
        record { name = 39; t = (ArrayOf (IntTy kind.Int) None); line = 0; lasting = true; braced = false; inits = [] } ∷
        [];
    functions =
        record { name = 40; t = (FunctionTy (StructTag 1) (MoreTys (IntTy kind.Int) NoTys) false); line = 0; params = []; body = None } ∷
        record {
          name = 41;
          t = (FunctionTy (IntTy kind.Int) (MoreTys (IntTy kind.Int) (MoreTys (IntTy kind.Long) NoTys)) false);
          line = 0;
          params = [];
          body = None;
        } ∷
        record { name = 42; t = (FunctionTy VoidTy NoTys false); line = 0; params = []; body = None } ∷
        record {
          name = 43;
          t = (FunctionTy (PointerTo (IntTy kind.Int)) (MoreTys (PointerTo (ConstOf (IntTy kind.Int))) NoTys) false);
          line = 0;
          params = [];
          body = None;
        } ∷
        record {
          name = 44;
          t = (FunctionTy (IntTy kind.Int) (MoreTys (PointerTo (ConstOf (IntTy kind.Char))) NoTys) true);
          line = 0;
          params = [];
          body = None;
        } ∷
        record {
          name = 45;
          t = (FunctionTy (PointerTo VoidTy) (MoreTys (IntTy kind.ULong) NoTys) false);
          line = 0;
          params = [];
          body = None;
        } ∷
        record { name = 46; t = (FunctionTy VoidTy (MoreTys (PointerTo VoidTy) NoTys) false); line = 0; params = []; body = None } ∷
        [];
    literals = [];
    instances = [];
    statics = [];
    placed = [];
    tags = [];
    declarations = 0;
  };
  texts = source_texts;
  used = [];
  unevaluated = false;
}
