-- The context of the further examples of typing: behind these declarations, with the names and string literals of all of them.
--   struct s { int a; char b[4]; const int c; };
--   struct p { int x; struct p *next; };
--   struct deep { struct s inner; int n; };
--   struct hold { struct p q[2]; unsigned char u; };
--   struct later;
--   union u { int i; unsigned char bytes[8]; };
--   union v { const int k; long m; };
--   enum e { A, B = 5, C };
--   typedef int word; typedef const int cword; typedef int row[3]; typedef char *string;
--   _Bool bo; char ch; signed char sc; unsigned char uc; short sh; unsigned short us; int i; unsigned ui; long l; unsigned long ul; long long ll; unsigned long long ull;
--   const int ci; const unsigned long cul; int *pi; const int *pci; int *const cpi; void *pv; const void *pcv; char *pc; const char *pcc; unsigned *pui; int **ppi; const int **ppci; int *const *pcpi;
--   int a[3]; const int ca[2]; int m[2][3]; const int cm[2][3]; char text[4]; int *ap[2];
--   int (*pa3)[3]; int (*pa4)[4]; const int (*pca3)[3];
--   struct s st; const struct s cst; const struct s *pcst; struct p node; const struct p cnode; struct p *pn; const struct p *pcn;
--   union u un; const union u cun; union v uv; struct deep de; struct hold ho; const struct hold cho;
--   extern struct later lt; struct later *plt; extern int open[]; extern int rows[][3];
--   struct p make(int x); struct s build(void); union u unite(void); const int fixed(void); struct later missing(void);
--   int add(int x, long y); void nothing(void); int *find(const int *from); struct p modify(struct p x, const union u y);
--   _Bool truth(int *p, _Bool b); int keep(const int x, int *const y); int total(int v[3]); int walk(int (*block)[]);
--   void *malloc(unsigned long n); void *calloc(unsigned long n, unsigned long size); void free(void *p); void *realloc(void *p, unsigned long n);
--   void *memcpy(void *to, const void *from, unsigned long n); void *memmove(void *to, const void *from, unsigned long n); void *memset(void *to, int c, unsigned long n);
--   int memcmp(const void *one, const void *other, unsigned long n); unsigned long strlen(const char *text); int strcmp(const char *one, const char *other);
--   char *strcpy(char *to, const char *from); void exit(int status); void abort(void); int printf(const char *format, ...);
use Rattle.std.specs.Prelude.{[], ◌∷◌, pos, true, false, Some, None, codes, List, ℕ}
use Rattle.pv_num.specs.declared.kinds.IntKind.TheVariants as kind
use Rattle.pv_types.specs.Ty.{VoidTy, IntTy, PointerTo, ArrayOf, StructTag, UnionTag, FunctionTy, ConstOf, NoTys, MoreTys}
use Rattle.pv_check.specs.State.{State, ObjectName, FunctionName, TypedefOf, ConstantOf, CompositeTag, EnumerationTag}

abbrev source_texts : List (List ℕ)
source_texts =
    (115 ∷ []) ∷ (97 ∷ []) ∷ (98 ∷ 99 ∷ 100 ∷ []) ∷ (98 ∷ 99 ∷ []) ∷ (97 ∷ 98 ∷ 99 ∷ []) ∷ (98 ∷ []) ∷ (120 ∷ []) ∷ ([]) ∷
    (37 ∷ 100 ∷ []) ∷ (37 ∷ 117 ∷ 32 ∷ 37 ∷ 120 ∷ []) ∷ (37 ∷ 108 ∷ 100 ∷ 32 ∷ 37 ∷ 108 ∷ 117 ∷ 32 ∷ 37 ∷ 108 ∷ 120 ∷ []) ∷
    (37 ∷ 99 ∷ []) ∷ (37 ∷ 115 ∷ []) ∷ (37 ∷ 112 ∷ []) ∷ (37 ∷ 37 ∷ []) ∷ (49 ∷ 48 ∷ 48 ∷ 37 ∷ 37 ∷ 44 ∷ 32 ∷ 37 ∷ 100 ∷ 37 ∷ 37 ∷ []) ∷
    (37 ∷ 105 ∷ []) ∷ (37 ∷ 53 ∷ 100 ∷ []) ∷ (37 ∷ 45 ∷ 100 ∷ []) ∷ (37 ∷ 46 ∷ 51 ∷ 115 ∷ []) ∷ (37 ∷ 42 ∷ 100 ∷ []) ∷ (37 ∷ 108 ∷ []) ∷
    (37 ∷ 108 ∷ 99 ∷ []) ∷ (37 ∷ 108 ∷ 115 ∷ []) ∷ (37 ∷ 108 ∷ 108 ∷ 100 ∷ []) ∷ (37 ∷ 104 ∷ 100 ∷ []) ∷ (37 ∷ 122 ∷ 117 ∷ []) ∷
    (37 ∷ 88 ∷ []) ∷ (37 ∷ 110 ∷ []) ∷ (37 ∷ 111 ∷ []) ∷ (37 ∷ 100 ∷ 37 ∷ []) ∷ (37 ∷ 32 ∷ 100 ∷ []) ∷ (97 ∷ 0 ∷ 37 ∷ 100 ∷ []) ∷
    (97 ∷ 0 ∷ 37 ∷ 102 ∷ []) ∷ (37 ∷ 102 ∷ []) ∷ (97 ∷ []) ∷ (98 ∷ []) ∷ (97 ∷ 98 ∷ []) ∷ (99 ∷ 100 ∷ []) ∷ (97 ∷ 98 ∷ []) ∷
    (99 ∷ 100 ∷ []) ∷ ([]) ∷ (97 ∷ 98 ∷ []) ∷ ([]) ∷ (97 ∷ 98 ∷ []) ∷ (99 ∷ []) ∷ (37 ∷ 100 ∷ []) ∷ (32 ∷ 37 ∷ 115 ∷ []) ∷ (37 ∷ []) ∷
    (100 ∷ []) ∷ (37 ∷ []) ∷ (102 ∷ []) ∷ []

abbrev unit_names : List (List ℕ)
unit_names =
    codes "@lit" ∷ codes "@heap" ∷ codes "A" ∷ codes "B" ∷ codes "C" ∷ codes "word" ∷ codes "cword" ∷ codes "row" ∷ codes "string" ∷
    codes "bo" ∷ codes "ch" ∷ codes "sc" ∷ codes "uc" ∷ codes "sh" ∷ codes "us" ∷ codes "i" ∷ codes "ui" ∷ codes "l" ∷ codes "ul" ∷
    codes "ll" ∷ codes "ull" ∷ codes "ci" ∷ codes "cul" ∷ codes "pi" ∷ codes "pci" ∷ codes "cpi" ∷ codes "pv" ∷ codes "pcv" ∷ codes "pc" ∷
    codes "pcc" ∷ codes "pui" ∷ codes "ppi" ∷ codes "ppci" ∷ codes "pcpi" ∷ codes "a" ∷ codes "ca" ∷ codes "m" ∷ codes "cm" ∷
    codes "text" ∷ codes "ap" ∷ codes "pa3" ∷ codes "pa4" ∷ codes "pca3" ∷ codes "st" ∷ codes "cst" ∷ codes "pcst" ∷ codes "node" ∷
    codes "cnode" ∷ codes "pn" ∷ codes "pcn" ∷ codes "un" ∷ codes "cun" ∷ codes "uv" ∷ codes "de" ∷ codes "ho" ∷ codes "cho" ∷ codes "lt" ∷
    codes "plt" ∷ codes "open" ∷ codes "rows" ∷ codes "make" ∷ codes "build" ∷ codes "unite" ∷ codes "fixed" ∷ codes "missing" ∷
    codes "add" ∷ codes "nothing" ∷ codes "find" ∷ codes "modify" ∷ codes "truth" ∷ codes "keep" ∷ codes "total" ∷ codes "walk" ∷
    codes "malloc" ∷ codes "calloc" ∷ codes "free" ∷ codes "realloc" ∷ codes "memcpy" ∷ codes "memmove" ∷ codes "memset" ∷ codes "memcmp" ∷
    codes "strlen" ∷ codes "strcmp" ∷ codes "strcpy" ∷ codes "exit" ∷ codes "abort" ∷ codes "printf" ∷ codes "s" ∷ codes "p" ∷
    codes "deep" ∷ codes "hold" ∷ codes "later" ∷ codes "u" ∷ codes "v" ∷ codes "e" ∷ codes "b" ∷ codes "c" ∷ codes "x" ∷ codes "next" ∷
    codes "inner" ∷ codes "n" ∷ codes "q" ∷ codes "bytes" ∷ codes "k" ∷ codes "z" ∷ codes "puts" ∷ codes "strncpy" ∷ codes "main" ∷
    codes "nope" ∷ codes "Q" ∷ codes "R" ∷ codes "T" ∷ codes "r" ∷ codes "y" ∷ codes "t" ∷ codes "nodes" ∷ []

abbrev pub context : State
context = record {
  scopes =
      record {
        names =
            (0, ConstantOf (pos 0)) ∷ (1, ConstantOf (pos 5)) ∷ (2, ConstantOf (pos 6)) ∷ (3, TypedefOf (IntTy kind.Int)) ∷
            (4, TypedefOf (ConstOf (IntTy kind.Int))) ∷ (5, TypedefOf (ArrayOf (IntTy kind.Int) (Some 3))) ∷
            (6, TypedefOf (PointerTo (IntTy kind.Char))) ∷ (7, ObjectName 0) ∷ (8, ObjectName 1) ∷ (9, ObjectName 2) ∷ (10, ObjectName 3) ∷
            (11, ObjectName 4) ∷ (12, ObjectName 5) ∷ (13, ObjectName 6) ∷ (14, ObjectName 7) ∷ (15, ObjectName 8) ∷ (16, ObjectName 9) ∷
            (17, ObjectName 10) ∷ (18, ObjectName 11) ∷ (19, ObjectName 12) ∷ (20, ObjectName 13) ∷ (21, ObjectName 14) ∷
            (22, ObjectName 15) ∷ (23, ObjectName 16) ∷ (24, ObjectName 17) ∷ (25, ObjectName 18) ∷ (26, ObjectName 19) ∷
            (27, ObjectName 20) ∷ (28, ObjectName 21) ∷ (29, ObjectName 22) ∷ (30, ObjectName 23) ∷ (31, ObjectName 24) ∷
            (32, ObjectName 25) ∷ (33, ObjectName 26) ∷ (34, ObjectName 27) ∷ (35, ObjectName 28) ∷ (36, ObjectName 29) ∷
            (37, ObjectName 30) ∷ (38, ObjectName 31) ∷ (39, ObjectName 32) ∷ (40, ObjectName 33) ∷ (41, ObjectName 34) ∷
            (42, ObjectName 35) ∷ (43, ObjectName 36) ∷ (44, ObjectName 37) ∷ (45, ObjectName 38) ∷ (46, ObjectName 39) ∷
            (47, ObjectName 40) ∷ (48, ObjectName 41) ∷ (49, ObjectName 42) ∷ (50, ObjectName 43) ∷ (51, ObjectName 44) ∷
            (52, ObjectName 45) ∷ (53, ObjectName 46) ∷ (54, ObjectName 47) ∷ (55, ObjectName 48) ∷ (56, ObjectName 49) ∷
            (57, ObjectName 50) ∷ (58, FunctionName 0) ∷ (59, FunctionName 1) ∷ (60, FunctionName 2) ∷ (61, FunctionName 3) ∷
            (62, FunctionName 4) ∷ (63, FunctionName 5) ∷ (64, FunctionName 6) ∷ (65, FunctionName 7) ∷ (66, FunctionName 8) ∷
            (67, FunctionName 9) ∷ (68, FunctionName 10) ∷ (69, FunctionName 11) ∷ (70, FunctionName 12) ∷ (71, FunctionName 13) ∷
            (72, FunctionName 14) ∷ (73, FunctionName 15) ∷ (74, FunctionName 16) ∷ (75, FunctionName 17) ∷ (76, FunctionName 18) ∷
            (77, FunctionName 19) ∷ (78, FunctionName 20) ∷ (79, FunctionName 21) ∷ (80, FunctionName 22) ∷ (81, FunctionName 23) ∷
            (82, FunctionName 24) ∷ (83, FunctionName 25) ∷ (84, FunctionName 26) ∷ [];
        tags =
            (85, CompositeTag false 0) ∷ (86, CompositeTag false 1) ∷ (87, CompositeTag false 2) ∷ (88, CompositeTag false 3) ∷
            (89, CompositeTag false 4) ∷ (90, CompositeTag true 5) ∷ (91, CompositeTag true 6) ∷ (92, EnumerationTag) ∷ [];
      } ∷
      [];
  unit = record {
    names = unit_names;
    headings =
        record { name = None; union = false } ∷
        record { name = None; union = false } ∷
        record { name = None; union = false } ∷
        record { name = None; union = false } ∷
        record { name = None; union = false } ∷
        record { name = None; union = true } ∷
        record { name = None; union = true } ∷
        [];
    completed =
        record {
          tag = 0;
          union = false;
          members =
              record { name = 32; t = (IntTy kind.Int) } ∷
              record { name = 93; t = (ArrayOf (IntTy kind.Char) (Some 4)) } ∷
              record { name = 94; t = (ConstOf (IntTy kind.Int)) } ∷
              [];
        } ∷
        record {
          tag = 1;
          union = false;
          members =
              record { name = 95; t = (IntTy kind.Int) } ∷
              record { name = 96; t = (PointerTo (StructTag 1)) } ∷
              [];
        } ∷
        record {
          tag = 2;
          union = false;
          members = record { name = 97; t = (StructTag 0) } ∷ record { name = 98; t = (IntTy kind.Int) } ∷ [];
        } ∷
        record {
          tag = 3;
          union = false;
          members =
              record { name = 99; t = (ArrayOf (StructTag 1) (Some 2)) } ∷
              record { name = 90; t = (IntTy kind.UChar) } ∷
              [];
        } ∷
        record {
          tag = 5;
          union = true;
          members =
              record { name = 13; t = (IntTy kind.Int) } ∷
              record { name = 100; t = (ArrayOf (IntTy kind.UChar) (Some 8)) } ∷
              [];
        } ∷
        record {
          tag = 6;
          union = true;
          members =
              record { name = 101; t = (ConstOf (IntTy kind.Int)) } ∷
              record { name = 34; t = (IntTy kind.Long) } ∷
              [];
        } ∷
        [];
    objects =
        record { name = 9; t = (IntTy kind.Bool); line = 0; lasting = true; braced = false; inits = [] } ∷
        record { name = 10; t = (IntTy kind.Char); line = 0; lasting = true; braced = false; inits = [] } ∷
        record { name = 11; t = (IntTy kind.SChar); line = 0; lasting = true; braced = false; inits = [] } ∷
        record { name = 12; t = (IntTy kind.UChar); line = 0; lasting = true; braced = false; inits = [] } ∷
        record { name = 13; t = (IntTy kind.Short); line = 0; lasting = true; braced = false; inits = [] } ∷
        record { name = 14; t = (IntTy kind.UShort); line = 0; lasting = true; braced = false; inits = [] } ∷
        record { name = 15; t = (IntTy kind.Int); line = 0; lasting = true; braced = false; inits = [] } ∷
        record { name = 16; t = (IntTy kind.UInt); line = 0; lasting = true; braced = false; inits = [] } ∷
        record { name = 17; t = (IntTy kind.Long); line = 0; lasting = true; braced = false; inits = [] } ∷
        record { name = 18; t = (IntTy kind.ULong); line = 0; lasting = true; braced = false; inits = [] } ∷
        record { name = 19; t = (IntTy kind.LLong); line = 0; lasting = true; braced = false; inits = [] } ∷
        record { name = 20; t = (IntTy kind.ULLong); line = 0; lasting = true; braced = false; inits = [] } ∷
        record { name = 21; t = (ConstOf (IntTy kind.Int)); line = 0; lasting = true; braced = false; inits = [] } ∷
        record { name = 22; t = (ConstOf (IntTy kind.ULong)); line = 0; lasting = true; braced = false; inits = [] } ∷
        record { name = 23; t = (PointerTo (IntTy kind.Int)); line = 0; lasting = true; braced = false; inits = [] } ∷
        record { name = 24; t = (PointerTo (ConstOf (IntTy kind.Int))); line = 0; lasting = true; braced = false; inits = [] } ∷
        record { name = 25; t = (ConstOf (PointerTo (IntTy kind.Int))); line = 0; lasting = true; braced = false; inits = [] } ∷
        record { name = 26; t = (PointerTo VoidTy); line = 0; lasting = true; braced = false; inits = [] } ∷
        record { name = 27; t = (PointerTo (ConstOf VoidTy)); line = 0; lasting = true; braced = false; inits = [] } ∷
        record { name = 28; t = (PointerTo (IntTy kind.Char)); line = 0; lasting = true; braced = false; inits = [] } ∷
        record { name = 29; t = (PointerTo (ConstOf (IntTy kind.Char))); line = 0; lasting = true; braced = false; inits = [] } ∷
        record { name = 30; t = (PointerTo (IntTy kind.UInt)); line = 0; lasting = true; braced = false; inits = [] } ∷
        record { name = 31; t = (PointerTo (PointerTo (IntTy kind.Int))); line = 0; lasting = true; braced = false; inits = [] } ∷
        record { name = 32; t = (PointerTo (PointerTo (ConstOf (IntTy kind.Int)))); line = 0; lasting = true; braced = false; inits = [] } ∷
        record { name = 33; t = (PointerTo (ConstOf (PointerTo (IntTy kind.Int)))); line = 0; lasting = true; braced = false; inits = [] } ∷
        record { name = 34; t = (ArrayOf (IntTy kind.Int) (Some 3)); line = 0; lasting = true; braced = false; inits = [] } ∷
        record { name = 35; t = (ArrayOf (ConstOf (IntTy kind.Int)) (Some 2)); line = 0; lasting = true; braced = false; inits = [] } ∷
        record {
          name = 36;
          t = (ArrayOf (ArrayOf (IntTy kind.Int) (Some 3)) (Some 2));
          line = 0;
          lasting = true;
          braced = false;
          inits = [];
        } ∷
        record {
          name = 37;
          t = (ArrayOf (ArrayOf (ConstOf (IntTy kind.Int)) (Some 3)) (Some 2));
          line = 0;
          lasting = true;
          braced = false;
          inits = [];
        } ∷
        record { name = 38; t = (ArrayOf (IntTy kind.Char) (Some 4)); line = 0; lasting = true; braced = false; inits = [] } ∷
        record { name = 39; t = (ArrayOf (PointerTo (IntTy kind.Int)) (Some 2)); line = 0; lasting = true; braced = false; inits = [] } ∷
        record { name = 40; t = (PointerTo (ArrayOf (IntTy kind.Int) (Some 3))); line = 0; lasting = true; braced = false; inits = [] } ∷
        record { name = 41; t = (PointerTo (ArrayOf (IntTy kind.Int) (Some 4))); line = 0; lasting = true; braced = false; inits = [] } ∷
        record {
          name = 42;
          t = (PointerTo (ArrayOf (ConstOf (IntTy kind.Int)) (Some 3)));
          line = 0;
          lasting = true;
          braced = false;
          inits = [];
        } ∷
        record { name = 43; t = (StructTag 0); line = 0; lasting = true; braced = false; inits = [] } ∷
        record { name = 44; t = (ConstOf (StructTag 0)); line = 0; lasting = true; braced = false; inits = [] } ∷
        record { name = 45; t = (PointerTo (ConstOf (StructTag 0))); line = 0; lasting = true; braced = false; inits = [] } ∷
        record { name = 46; t = (StructTag 1); line = 0; lasting = true; braced = false; inits = [] } ∷
        record { name = 47; t = (ConstOf (StructTag 1)); line = 0; lasting = true; braced = false; inits = [] } ∷
        record { name = 48; t = (PointerTo (StructTag 1)); line = 0; lasting = true; braced = false; inits = [] } ∷
        record { name = 49; t = (PointerTo (ConstOf (StructTag 1))); line = 0; lasting = true; braced = false; inits = [] } ∷
        record { name = 50; t = (UnionTag 5); line = 0; lasting = true; braced = false; inits = [] } ∷
        record { name = 51; t = (ConstOf (UnionTag 5)); line = 0; lasting = true; braced = false; inits = [] } ∷
        record { name = 52; t = (UnionTag 6); line = 0; lasting = true; braced = false; inits = [] } ∷
        record { name = 53; t = (StructTag 2); line = 0; lasting = true; braced = false; inits = [] } ∷
        record { name = 54; t = (StructTag 3); line = 0; lasting = true; braced = false; inits = [] } ∷
        record { name = 55; t = (ConstOf (StructTag 3)); line = 0; lasting = true; braced = false; inits = [] } ∷
        record { name = 56; t = (StructTag 4); line = 0; lasting = true; braced = false; inits = [] } ∷
        record { name = 57; t = (PointerTo (StructTag 4)); line = 0; lasting = true; braced = false; inits = [] } ∷
        record { name = 58; t = (ArrayOf (IntTy kind.Int) None); line = 0; lasting = true; braced = false; inits = [] } ∷
        record { name = 59; t = (ArrayOf (ArrayOf (IntTy kind.Int) (Some 3)) None); line = 0; lasting = true; braced = false; inits = [] } ∷
        [];
    functions =
        record { name = 60; t = (FunctionTy (StructTag 1) (MoreTys (IntTy kind.Int) NoTys) false); line = 0; params = []; body = None } ∷
        record { name = 61; t = (FunctionTy (StructTag 0) NoTys false); line = 0; params = []; body = None } ∷
        record { name = 62; t = (FunctionTy (UnionTag 5) NoTys false); line = 0; params = []; body = None } ∷
        record { name = 63; t = (FunctionTy (IntTy kind.Int) NoTys false); line = 0; params = []; body = None } ∷
        record { name = 64; t = (FunctionTy (StructTag 4) NoTys false); line = 0; params = []; body = None } ∷
        record {
          name = 65;
          t = (FunctionTy (IntTy kind.Int) (MoreTys (IntTy kind.Int) (MoreTys (IntTy kind.Long) NoTys)) false);
          line = 0;
          params = [];
          body = None;
        } ∷
        record { name = 66; t = (FunctionTy VoidTy NoTys false); line = 0; params = []; body = None } ∷
        record {
          name = 67;
          t = (FunctionTy (PointerTo (IntTy kind.Int)) (MoreTys (PointerTo (ConstOf (IntTy kind.Int))) NoTys) false);
          line = 0;
          params = [];
          body = None;
        } ∷
        record {
          name = 68;
          t = (FunctionTy (StructTag 1) (MoreTys (StructTag 1) (MoreTys (UnionTag 5) NoTys)) false);
          line = 0;
          params = [];
          body = None;
        } ∷
        record {
          name = 69;
          t = (FunctionTy (IntTy kind.Bool) (MoreTys (PointerTo (IntTy kind.Int)) (MoreTys (IntTy kind.Bool) NoTys)) false);
          line = 0;
          params = [];
          body = None;
        } ∷
        record {
          name = 70;
          t = (FunctionTy (IntTy kind.Int) (MoreTys (IntTy kind.Int) (MoreTys (PointerTo (IntTy kind.Int)) NoTys)) false);
          line = 0;
          params = [];
          body = None;
        } ∷
        record {
          name = 71;
          t = (FunctionTy (IntTy kind.Int) (MoreTys (PointerTo (IntTy kind.Int)) NoTys) false);
          line = 0;
          params = [];
          body = None;
        } ∷
        record {
          name = 72;
          t = (FunctionTy (IntTy kind.Int) (MoreTys (PointerTo (ArrayOf (IntTy kind.Int) None)) NoTys) false);
          line = 0;
          params = [];
          body = None;
        } ∷
        record {
          name = 73;
          t = (FunctionTy (PointerTo VoidTy) (MoreTys (IntTy kind.ULong) NoTys) false);
          line = 0;
          params = [];
          body = None;
        } ∷
        record {
          name = 74;
          t = (FunctionTy (PointerTo VoidTy) (MoreTys (IntTy kind.ULong) (MoreTys (IntTy kind.ULong) NoTys)) false);
          line = 0;
          params = [];
          body = None;
        } ∷
        record { name = 75; t = (FunctionTy VoidTy (MoreTys (PointerTo VoidTy) NoTys) false); line = 0; params = []; body = None } ∷
        record {
          name = 76;
          t = (FunctionTy (PointerTo VoidTy) (MoreTys (PointerTo VoidTy) (MoreTys (IntTy kind.ULong) NoTys)) false);
          line = 0;
          params = [];
          body = None;
        } ∷
        record {
          name = 77;
          t = (FunctionTy (PointerTo VoidTy) (MoreTys (PointerTo VoidTy) (MoreTys (PointerTo (ConstOf VoidTy)) (MoreTys (IntTy kind.ULong) NoTys))) false);
          line = 0;
          params = [];
          body = None;
        } ∷
        record {
          name = 78;
          t = (FunctionTy (PointerTo VoidTy) (MoreTys (PointerTo VoidTy) (MoreTys (PointerTo (ConstOf VoidTy)) (MoreTys (IntTy kind.ULong) NoTys))) false);
          line = 0;
          params = [];
          body = None;
        } ∷
        record {
          name = 79;
          t = (FunctionTy (PointerTo VoidTy) (MoreTys (PointerTo VoidTy) (MoreTys (IntTy kind.Int) (MoreTys (IntTy kind.ULong) NoTys))) false);
          line = 0;
          params = [];
          body = None;
        } ∷
        record {
          name = 80;
          t = (FunctionTy (IntTy kind.Int) (MoreTys (PointerTo (ConstOf VoidTy)) (MoreTys (PointerTo (ConstOf VoidTy)) (MoreTys (IntTy kind.ULong) NoTys))) false);
          line = 0;
          params = [];
          body = None;
        } ∷
        record {
          name = 81;
          t = (FunctionTy (IntTy kind.ULong) (MoreTys (PointerTo (ConstOf (IntTy kind.Char))) NoTys) false);
          line = 0;
          params = [];
          body = None;
        } ∷
        record {
          name = 82;
          t = (FunctionTy (IntTy kind.Int) (MoreTys (PointerTo (ConstOf (IntTy kind.Char))) (MoreTys (PointerTo (ConstOf (IntTy kind.Char))) NoTys)) false);
          line = 0;
          params = [];
          body = None;
        } ∷
        record {
          name = 83;
          t = (FunctionTy (PointerTo (IntTy kind.Char)) (MoreTys (PointerTo (IntTy kind.Char)) (MoreTys (PointerTo (ConstOf (IntTy kind.Char))) NoTys)) false);
          line = 0;
          params = [];
          body = None;
        } ∷
        record { name = 84; t = (FunctionTy VoidTy (MoreTys (IntTy kind.Int) NoTys) false); line = 0; params = []; body = None } ∷
        record { name = 85; t = (FunctionTy VoidTy NoTys false); line = 0; params = []; body = None } ∷
        record {
          name = 86;
          t = (FunctionTy (IntTy kind.Int) (MoreTys (PointerTo (ConstOf (IntTy kind.Char))) NoTys) true);
          line = 0;
          params = [];
          body = None;
        } ∷
        [];
    literals = [];
    instances = [];
    statics = [];
    placed = [];
    tags = [];
    declarations = 0;
  };
  texts = source_texts;
  used = [];
  unevaluated = false;
}
