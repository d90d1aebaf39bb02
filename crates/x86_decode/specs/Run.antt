-- The run of the reader over bytes, and how many bytes are still needed.
use Rattle.std.specs.Prelude.{ℕ, suc, ◌+◌, ◌-◌, ◌/◌, ◌&&◌, ◌||◌, nat_eq, if◌then◌else◌, List, [], ◌∷◌, Result, Ok, Err}
use Rattle.x86_forms.specs.declared.instr.Instr.{Instr}
use Rattle.x86_decode.specs.declared.states.State.{State}
use Rattle.x86_decode.specs.declared.states.State.TheVariants.{Start, Prefix, Rex, Escape, ModRm, Sib, Disp, Imm}
use Rattle.x86_decode.specs.declared.states.Next.{Next}
use Rattle.x86_decode.specs.declared.states.Next.TheVariants.{Dead, Go, End}
use Rattle.x86_decode.specs.declared.reader.Undecoded.{Undecoded}
use Rattle.x86_decode.specs.declared.reader.Undecoded.TheVariants.{Undefined, Short}
use Rattle.x86_decode.specs.Rows.{imm_len}
use Rattle.x86_decode.specs.Steps.{step_of, disp_len, rex_x}

abbrev pub head_least : ℕ → ℕ → ℕ
head_least prefix rex =
    if nat_eq prefix 0xF3 then (if nat_eq (rex_x rex) 1 then 4 else 3)
    else if nat_eq (rex_x rex) 1 then 3
    else if nat_eq prefix 0 && (nat_eq rex 0 || nat_eq rex 0x41 || nat_eq rex 0x48) then 1
    else if nat_eq prefix 0xF2 && nat_eq rex 0 then 1
    else 2

abbrev pub escape_least : ℕ → ℕ → ℕ
escape_least prefix rex = if nat_eq (rex_x rex) 1 then 3 else if nat_eq prefix 0 && nat_eq rex 0 then 1 else 2

abbrev pub mode_len : ℕ → ℕ
mode_len mode = if nat_eq mode 0 then 0 else if nat_eq mode 1 then 1 else 4

-- the least number of bytes that complete what has been read
unfoldable pub least_of : State → ℕ
least_of Start = 1
least_of (Prefix prefix) = head_least prefix 0
least_of (Rex prefix rex) = head_least prefix rex
least_of (Escape prefix rex) = escape_least prefix rex
least_of (ModRm head row) = 1 + rex_x head.rex + imm_len row
least_of (Sib head row modrm) = 1 + mode_len (modrm / 64) + imm_len row
least_of (Disp head row reg mode base index free have bytes) = (disp_len mode - have) + imm_len row
least_of (Imm head row reg rm have bytes) = imm_len row - have

abbrev pub Answer : Type 0
Answer = Result (Instr × ℕ) Undecoded

-- n bytes have been read
abbrev pub outcome : (State → Answer) → ℕ → Next → Answer
outcome f n Dead = Err Undefined
outcome f n (Go s) = f s
outcome f n (End i) = Ok (i, n)

unfoldable pub run : List ℕ → State → ℕ → Answer
run [] s n = Err (Short (n + least_of s))
run (b ∷ bs) s n = outcome (λ s'. run bs s' (suc n)) (suc n) (step_of s b)
