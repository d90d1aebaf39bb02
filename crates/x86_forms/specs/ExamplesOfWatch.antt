-- Examples of the watch, at its edges.
use Rattle.std.specs.Prelude.{◌≡◌, ℕ, Bool, true, false, Option, None, Some, pos, List, [], ◌∷◌}
use Rattle.x86_forms.specs.declared.instr.Instr.{Instr}
use Rattle.x86_forms.specs.declared.instr.Rm.TheVariants.{Mem as InMem}
use Rattle.x86_forms.specs.declared.instr.Instr.TheVariants.{MovTo, MovFrom, Push, CallRm, Syscall, BndmovTo}
use Rattle.x86_forms.specs.declared.spans.Span.{Span}
use Rattle.x86_forms.specs.TableLaws.{read_span, write_span}
use Rattle.x86_forms.specs.Watch.{access_strays, control_strays}
use Rattle.x86_forms.specs.Examples.{reg, based, scaled, by_rip}

-- an access of the instruction at an address, and where it strays
pub record AccessExample : Type 0 where
  pub instr : Instr
  pub from : ℕ
  pub access : Span
  pub strays : Option ℕ

abbrev pub judged : Instr → ℕ → Span → Option ℕ → AccessExample
judged i from s x = record { instr = i; from = from; access = s; strays = x }

unfoldable pub IsJudged : AccessExample → Type 0
IsJudged e = access_strays e.instr e.from e.access ≡ e.strays

-- control from one address to another, by a call, by a return or otherwise, with two outer entries, and where it strays
pub record ControlExample : Type 0 where
  pub from : ℕ
  pub to : ℕ
  pub call : Bool
  pub ret : Bool
  pub strays : Option ℕ

abbrev pub jumps : ℕ → ℕ → Option ℕ → ControlExample
jumps from to x = record { from = from; to = to; call = false; ret = false; strays = x }

abbrev pub calls : ℕ → ℕ → Option ℕ → ControlExample
calls from to x = record { from = from; to = to; call = true; ret = false; strays = x }

abbrev pub returns_to : ℕ → ℕ → Option ℕ → ControlExample
returns_to from to x = record { from = from; to = to; call = false; ret = true; strays = x }

unfoldable pub IsControlJudged : ControlExample → Type 0
IsControlJudged e = control_strays e.from e.to e.call e.ret 2 ≡ e.strays

-- an address of legacy code, and one of instrumented code
abbrev pub legacy : ℕ
legacy = 0x1200_0000

abbrev pub instrumented : ℕ
instrumented = 0x0200_0000

abbrev pub examples_of_judged_accesses : List AccessExample
examples_of_judged_accesses =
    -- legacy code: the control stack; up to the cells and into them; push into the cells; before instrumented code and into it;
    -- past the last address; the reading of a service
    judged (MovFrom 64 (reg 0) (based 1 (pos 0))) legacy (read_span 0x7100_0000 8 false) (Some 0x7100_0000)
    ∷ judged (MovFrom 64 (reg 0) (based 1 (pos 0))) legacy (read_span 0x6fff_fff8 8 false) None
    ∷ judged (MovFrom 64 (reg 0) (based 1 (pos 0))) legacy (read_span 0x6fff_fff9 8 false) (Some 0x7000_0000)
    ∷ judged (MovFrom 64 (reg 0) (based 4 (pos 0))) legacy (read_span 0x7000_0fff 8 false) (Some 0x7000_0fff)
    ∷ judged (MovFrom 64 (reg 0) (based 4 (pos 0))) legacy (read_span 0x7000_1000 8 false) None
    ∷ judged (Push (reg 0)) legacy (write_span 0x7000_0ff8 8 true) (Some 0x7000_0ff8)
    ∷ judged (MovFrom 64 (reg 0) (scaled 1 8 (pos 0))) legacy (read_span 0x00ff_fffc 8 false) (Some 0x0100_0000)
    ∷ judged (MovFrom 64 (reg 0) (based 1 (pos 0))) legacy (read_span 0xffff_ffff_ffff_fffc 8 false) None
    ∷ judged Syscall legacy (read_span 0x6fff_ff80 200 true) (Some 0x7000_0000)
    -- instrumented code: by another register than rsp; by rsp; without base; by rip; push; the two accesses of a call; bounds of
    -- 16 bytes; the reading of a service
    ∷ judged (MovFrom 64 (reg 0) (based 7 (pos 0))) instrumented (read_span 0x71ff_ff00 8 false) (Some 0x71ff_ff00)
    ∷ judged (MovFrom 64 (reg 0) (based 7 (pos 0))) instrumented (read_span 0x3000_0000 8 false) None
    ∷ judged (MovFrom 64 (reg 0) (based 12 (pos 0))) instrumented (read_span 0x71ff_ff00 8 false) (Some 0x71ff_ff00)
    ∷ judged (MovTo 64 (reg 0) (InMem (based 4 (pos 8)))) instrumented (write_span 0x71ff_ff00 8 false) None
    ∷ judged (MovFrom 64 (reg 0) (scaled 1 8 (pos 0))) instrumented (read_span 0x7000_0000 8 false) None
    ∷ judged (MovFrom 64 (reg 0) (by_rip (pos 0))) instrumented (read_span 0x0200_0007 8 false) None
    ∷ judged (Push (reg 0)) instrumented (write_span 0x71ff_fff8 8 true) None
    ∷ judged (CallRm true (InMem (based 0 (pos 0)))) instrumented (read_span 0x7000_0008 8 false) (Some 0x7000_0008)
    ∷ judged (CallRm true (InMem (based 0 (pos 0)))) instrumented (write_span 0x71ff_fff8 8 true) None
    ∷ judged (BndmovTo 0 (based 7 (pos 0))) instrumented (write_span 0x3fff_ffff_fff8 16 false) (Some 0x4000_0000_0000)
    ∷ judged Syscall instrumented (read_span 0x7000_0000 8 true) None
    ∷ []

-- of outer entries the first stands at 0x01010000 and the second, the last one here, at 0x01010080
abbrev pub examples_of_judged_control : List ControlExample
examples_of_judged_control =
    -- from legacy code to the landing, and beside it
    jumps legacy 0x0100_0400 None
    ∷ calls legacy 0x0100_0400 None
    ∷ returns_to legacy 0x0100_0400 None
    ∷ jumps legacy 0x0100_0401 (Some 0x0100_0401)
    -- to an outer entry by a call and otherwise, into one, and after the last one
    ∷ calls legacy 0x0101_0000 None
    ∷ calls legacy 0x0101_0080 None
    ∷ jumps legacy 0x0101_0000 (Some 0x0101_0000)
    ∷ returns_to legacy 0x0101_0080 (Some 0x0101_0080)
    ∷ calls legacy 0x0101_0040 (Some 0x0101_0040)
    ∷ calls legacy 0x0101_0100 (Some 0x0101_0100)
    -- to the first and the last byte of instrumented code, and beside it
    ∷ calls legacy 0x0100_0000 (Some 0x0100_0000)
    ∷ jumps legacy 0x10ff_ffff (Some 0x10ff_ffff)
    ∷ jumps legacy 0x00ff_ffff None
    ∷ jumps legacy 0x1100_0000 None
    ∷ jumps legacy legacy None
    -- by the return of an outer entry; by another branch of it; by the return of other instrumented code
    ∷ returns_to 0x0101_00ff instrumented (Some instrumented)
    ∷ returns_to 0x0101_00ff 0x0100_0400 None
    ∷ returns_to 0x0101_00ff legacy None
    ∷ calls 0x0101_00ff instrumented None
    ∷ returns_to 0x0101_0100 instrumented None
    ∷ returns_to 0x0100_ffff instrumented None
    ∷ jumps instrumented 0x0101_0000 None
    ∷ []
