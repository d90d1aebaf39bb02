-- Small objects, and gates whose code only tells what it is made of.
use Rattle.std.specs.Prelude.{ℕ, true, false, List, [], ◌∷◌, pos}
use Rattle.obj_file.specs.declared.object.Object.{Object}
use Rattle.obj_file.specs.declared.object.Symbol.{Symbol}
use Rattle.obj_file.specs.declared.object.Fix.{Fix}
use Rattle.obj_file.specs.declared.image.Image.{Image}
use Rattle.obj_linker.specs.Image.{Gates, segment, main_name}
use Rattle.obj_linker.specs.Faults.{main_sig}

abbrev pub told_gates : Gates
told_gates = record { start = λ main. main ∷ []; landing = 7 ∷ []; outer = λ sig inner at. inner ∷ at ∷ sig; stub = λ sig target at. target ∷ at ∷ sig }

-- `g` and `v`
abbrev pub g_name : List ℕ
g_name = 103 ∷ []

abbrev pub v_name : List ℕ
v_name = 118 ∷ []

-- `fl(p)`
abbrev pub g_sig : List ℕ
g_sig = 102 ∷ 108 ∷ 40 ∷ 112 ∷ 41 ∷ []

-- `d4`
abbrev pub v_sig : List ℕ
v_sig = 100 ∷ 52 ∷ []

abbrev pub symbol : (part offset : ℕ) → (name sig : List ℕ) → Symbol
symbol part offset name sig = record { part = part; offset = offset; name = name; sig = sig }

abbrev pub fix : (part offset form symbol : ℕ) → Fix
fix part offset form symbol = record { part = part; offset = offset; form = form; symbol = symbol; addend = pos 0 }

-- `int main(void)`, in the file `a`, with a place
abbrev pub alone : Object
alone = record {
  legacy = false;
  file = 97 ∷ [];
  code = 0x90 ∷ 0xC3 ∷ [];
  stored = [];
  symbols = symbol 1 0 main_name main_sig ∷ [];
  fixes = [];
  places = record { offset = 1; line = 2; col = 3; kind = 2; size = 4 } ∷ [];
}

-- the same with a call of the legacy function `g`, and a pointer to it in its data
abbrev pub caller : Object
caller = record {
  legacy = false;
  file = [];
  code = 0xF2 ∷ 0xE8 ∷ 0 ∷ 0 ∷ 0 ∷ 0 ∷ 0xC3 ∷ [];
  stored = 0 ∷ 0 ∷ 0 ∷ 0 ∷ 0 ∷ 0 ∷ 0 ∷ 0 ∷ [];
  symbols = symbol 1 0 main_name main_sig ∷ symbol 0 0 g_name g_sig ∷ [];
  fixes = fix 1 2 2 1 ∷ fix 2 0 0 1 ∷ [];
  places = [];
}

-- `g`, which calls `main` back, with a variable `v`
abbrev pub legacy : Object
legacy = record {
  legacy = true;
  file = [];
  code = 0x90 ∷ 0xE8 ∷ 0 ∷ 0 ∷ 0 ∷ 0 ∷ [];
  stored = 5 ∷ [];
  symbols = symbol 1 1 g_name [] ∷ symbol 0 0 main_name [] ∷ symbol 2 0 v_name [] ∷ [];
  fixes = fix 1 2 2 1 ∷ [];
  places = [];
}

abbrev pub with_symbols : Object → List Symbol → Object
with_symbols o symbols = record o { symbols = symbols; fixes = [] }

abbrev pub image_alone : Image
image_alone = record {
  outers = 1;
  segments =
      segment 0x0100_0000 (0x0200_0000 ∷ [])
      ∷ segment 0x0100_0400 (7 ∷ [])
      ∷ segment 0x0101_0000 (0x0200_0000 ∷ 0x0101_0000 ∷ main_sig)
      ∷ segment 0x0200_0000 (0x90 ∷ 0xC3 ∷ [])
      ∷ [];
  files = (97 ∷ []) ∷ [];
  places = record { at = 0x0200_0001; file = 0; line = 2; col = 3; kind = 2; size = 4 } ∷ [];
}

-- the call goes to the stub at 0x2000080, the pointer to `g` itself at 0x12000001, and the call back to the outer entry
abbrev pub image_of_two : Image
image_of_two = record {
  outers = 1;
  segments =
      segment 0x0100_0000 (0x0200_0000 ∷ [])
      ∷ segment 0x0100_0400 (7 ∷ [])
      ∷ segment 0x0101_0000 (0x0200_0000 ∷ 0x0101_0000 ∷ main_sig)
      ∷ segment 0x0200_0000 (0xF2 ∷ 0xE8 ∷ 0x7A ∷ 0 ∷ 0 ∷ 0 ∷ 0xC3 ∷ [])
      ∷ segment 0x0200_0080 (0x1200_0001 ∷ 0x0200_0080 ∷ g_sig)
      ∷ segment 0x1200_0000 (0x90 ∷ 0xE8 ∷ 0xFA ∷ 0xFF ∷ 0x00 ∷ 0xEF ∷ [])
      ∷ segment 0x2000_0000 (0x01 ∷ 0x00 ∷ 0x00 ∷ 0x12 ∷ 0 ∷ 0 ∷ 0 ∷ 0 ∷ [])
      ∷ segment 0x2000_0010 (5 ∷ [])
      ∷ [];
  files = [];
  places = [];
}
