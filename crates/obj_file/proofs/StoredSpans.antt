-- The accesses of a valid instruction: at most two, each at an address and of a size of 64 bits; and those of them that stay out of the
-- directory and the tables.
use Rattle.std.proofs.Common.{◌≡◌, ℕ, zero, suc, inl, inr, min, ◌+◌, ◌-◌, ◌<◌, ◌≤◌, ◌^◌, Bool, true, false, nat_lt, Option, Some, None, List, [], ◌∷◌, refl, ◌∙◌, subst, arith}
use Rattle.std.specs.Prelude.{⊤, if◌then◌else◌}
use Rattle.std.specs.List.{AllByRecursion}
use Rattle.std.specs.Option.{option_or}
use Rattle.std.proofs.lemmas.Bool.{and_parts, cases_Bool}
use Rattle.std.proofs.lemmas.Bool.Decides.{nat_tests}
use Rattle.mx_base.specs.Bounds.{addresses, moved}
use Rattle.mx_base.specs.Memory.{first_refused, first_refused_around}
use Rattle.mx_base.specs.Regions.{is_readable, is_sealed}
use Rattle.mx_base.proofs.MemoryLemmas.{first_refused-none, first_refused_around-plain}
use Rattle.x86_forms.specs.declared.instr.Instr.{Instr}
use Rattle.x86_forms.specs.declared.instr.Mem.{Mem}
use Rattle.x86_forms.specs.declared.instr.Rm.{Rm}
use Rattle.x86_forms.specs.declared.instr.Rm.TheVariants.{Reg as InReg, Mem as InMem}
use Rattle.x86_forms.specs.declared.instr.Instr.TheVariants.{MovTo, MovFrom, MovMemImm, MovImm, Movsxd, Movzx, Movsx, Lea, AluTo, AluFrom, AluImm, Test as TestRm, Imul as ImulRm, One, Wide, ShiftCl, ShiftImm, Set, Push, Pop, CallRel, JmpRel, CallRm, JmpRm, Jcc, Ret, Syscall, Ud2, Nop, Bndmk, Bndcl, Bndcu, Bndcn, BndmovTo, BndmovFrom, Bndldx, Bndstx}
use Rattle.x86_forms.specs.declared.spans.Span.{Span}
use Rattle.x86_forms.specs.Accesses.{accesses, reach_of, operand_reads, operand_writes, operand_changes, call_accesses, span, push}
use Rattle.x86_forms.specs.Processor.{address, rsp}
use Rattle.x86_forms.specs.Validity.{valid_of, width_ok, word_ok, narrow_ok}
use Rattle.x86_forms.specs.Watch.{is_watched, access_strays}
use Rattle.x86_forms.proofs.WatchFirst.{access-fine}
use Rattle.obj_file.specs.Machine.{unless_bare, span_strays, is_all, is_read, reach_strays}
use Rattle.obj_file.specs.StoreLaw.{AvoidsBounds, StaysOut, is_of_bounds}
use Rattle.obj_file.proofs.StoredPlaces.{near_readable}
use Rattle.obj_file.proofs.StoredWords.{each_width, wide_width, address_word, first_of_three, second_of_three}
use Rattle.obj_file.proofs.StoredRows.{Clear}

-- ---- at most two

abbrev pub Fits : Span → Type 0
Fits s = (s.at < 2 ^ 64) × (s.size < 2 ^ 64)

abbrev pub AreFew : List Span → Type 0
AreFew [] = ⊤
AreFew (a ∷ []) = Fits a
AreFew (a ∷ b ∷ []) = Fits a × Fits b
AreFew (a ∷ b ∷ d ∷ rest) = ⊥

small_width : (w : ℕ) → width_ok w ≡ true → w ≤ 128
small_width w ok = each_width (λ n. n ≤ 128) w ok (omega arith) (omega arith) (omega arith) (omega arith)

small_word : (w : ℕ) → word_ok w ≡ true → w ≤ 128
small_word w ok = small_width w (wide_width w ok)

small_narrow : (w : ℕ) → narrow_ok w ≡ true → w ≤ 128
small_narrow w ok = grind (arith, nat_tests)

span_fits : (regs : ℕ → ℕ) (next w : ℕ) (m : Mem) (write : Bool) → w ≤ 128 → Fits (span (address regs next m) w write)
span_fits regs next w m write small = (address_word regs next m, omega arith)

few_reads : (regs : ℕ → ℕ) (next w : ℕ) (rm : Rm) → w ≤ 128 → AreFew (operand_reads regs next w rm)
few_reads regs next w (InReg r) small = tt
few_reads regs next w (InMem m) small = span_fits regs next w m false small

few_writes : (regs : ℕ → ℕ) (next w : ℕ) (rm : Rm) → w ≤ 128 → AreFew (operand_writes regs next w rm)
few_writes regs next w (InReg r) small = tt
few_writes regs next w (InMem m) small = span_fits regs next w m true small

few_changes : (regs : ℕ → ℕ) (next w : ℕ) (rm : Rm) (writes : Bool) → w ≤ 128 → AreFew (operand_changes regs next w rm writes)
few_changes regs next w (InReg r) true small = tt
few_changes regs next w (InReg r) false small = tt
few_changes regs next w (InMem m) true small = (span_fits regs next w m false small, span_fits regs next w m true small)
few_changes regs next w (InMem m) false small = span_fits regs next w m false small

push_fits : (regs : ℕ → ℕ) → Fits (push regs)
push_fits regs = (omega arith, omega arith)

few_call : (regs : ℕ → ℕ) (next : ℕ) (rm : Rm) → AreFew (call_accesses regs next rm)
few_call regs next (InReg r) = push_fits regs
few_call regs next (InMem m) = (span_fits regs next 64 m false (omega arith), push_fits regs)

pub few_accesses : (i : Instr) (next : ℕ) (regs : ℕ → ℕ) → valid_of i ≡ true → ((k : ℕ) → regs k < 2 ^ 64) → AreFew (accesses i next regs)
few_accesses (MovTo w r rm) next regs ok h = few_writes regs next w rm (small_width w (first_of_three _ _ _ ok))
few_accesses (MovFrom w r m) next regs ok h = few_reads regs next w (InMem m) (small_width w (first_of_three _ _ _ ok))
few_accesses (MovMemImm w m imm) next regs ok h = few_writes regs next w (InMem m) (small_width w (first_of_three _ _ _ ok))
few_accesses (MovImm w r imm) next regs ok h = tt
few_accesses (Movsxd r rm) next regs ok h = few_reads regs next 32 rm (omega arith)
few_accesses (Movzx from r rm) next regs ok h = few_reads regs next from rm (small_narrow from (first_of_three _ _ _ ok))
few_accesses (Movsx w from r rm) next regs ok h = few_reads regs next from rm (small_narrow from (second_of_three _ _ _ ((and_parts _ _ ok).0)))
few_accesses (Lea r m) next regs ok h = tt
few_accesses (AluTo op w r rm) next regs ok h = few_changes regs next w rm (nat_lt op 5) (small_word w (second_of_three _ _ _ ((and_parts _ _ ok).0)))
few_accesses (AluFrom op w r m) next regs ok h = few_reads regs next w (InMem m) (small_word w (second_of_three _ _ _ ((and_parts _ _ ok).0)))
few_accesses (AluImm op w rm imm) next regs ok h = few_changes regs next w rm (nat_lt op 5) (small_word w (second_of_three _ _ _ ((and_parts _ _ ok).0)))
few_accesses (TestRm w r rm) next regs ok h = few_reads regs next w rm (small_word w (first_of_three _ _ _ ok))
few_accesses (ImulRm w r rm) next regs ok h = few_reads regs next w rm (small_word w (first_of_three _ _ _ ok))
few_accesses (One op w rm) next regs ok h = few_changes regs next w rm (nat_lt op 2) (small_word w (second_of_three _ _ _ ok))
few_accesses (Wide w) next regs ok h = tt
few_accesses (ShiftCl op w rm) next regs ok h = few_changes regs next w rm true (small_word w (second_of_three _ _ _ ok))
few_accesses (ShiftImm op w rm imm) next regs ok h = few_changes regs next w rm true (small_word w (second_of_three _ _ _ ((and_parts _ _ ok).0)))
few_accesses (Set op rm) next regs ok h = few_writes regs next 8 rm (omega arith)
few_accesses (Push r) next regs ok h = push_fits regs
few_accesses (Pop r) next regs ok h = (h rsp, omega arith)
few_accesses (CallRel prefixed rel) next regs ok h = push_fits regs
few_accesses (CallRm prefixed rm) next regs ok h = few_call regs next rm
few_accesses (JmpRel prefixed rel) next regs ok h = tt
few_accesses (JmpRm prefixed rm) next regs ok h = few_reads regs next 64 rm (omega arith)
few_accesses (Jcc prefixed op rel) next regs ok h = tt
few_accesses (Ret prefixed) next regs ok h = (h rsp, omega arith)
few_accesses Syscall next regs ok h = tt
few_accesses Ud2 next regs ok h = tt
few_accesses Nop next regs ok h = tt
few_accesses (Bndmk b m) next regs ok h = tt
few_accesses (Bndcl b rm) next regs ok h = tt
few_accesses (Bndcu b rm) next regs ok h = tt
few_accesses (Bndcn b rm) next regs ok h = tt
few_accesses (BndmovTo b m) next regs ok h = few_writes regs next 128 (InMem m) (omega arith)
few_accesses (BndmovFrom b rm) next regs ok h = few_reads regs next 128 rm (omega arith)
few_accesses (Bndldx b m) next regs ok h = tt
few_accesses (Bndstx b m) next regs ok h = tt

-- ---- what the watch lets pass

unsealed_not_of_bounds : (a : ℕ) → is_sealed a ≡ false → is_of_bounds a ≡ false
unfolding is_sealed is_of_bounds
unsealed_not_of_bounds a h = grind (arith, nat_tests)

-- an access stays out where the watch looks at it and finds it fine, and where it doesn't by what is known of it
pub passed_avoids : (bare : Bool) (i : Instr) (from : ℕ) (s : Span) → Fits s → StaysOut bare i from s → unless_bare bare (access_strays i from s) ≡ None → AvoidsBounds s
passed_avoids true i from s fits out none = out refl
passed_avoids false i from s fits out none = elim (cases_Bool (is_watched i from s)) [
  | inl looks ↦ λ k low. unsealed_not_of_bounds (moved s.at k) (access-fine i from s fits.0 fits.1 looks none k low)
  | inr not_looks ↦ out not_looks
]

readable_around : (n a : ℕ) → first_refused is_readable n a ≡ None → first_refused_around is_readable n a ≡ None
unfolding first_refused_around first_refused
readable_around zero a none = let all : min 0 (addresses - a) ≡ 0 = omega arith in let rest : 0 - (addresses - a) ≡ 0 = omega arith in rw (all, rest) refl
readable_around (suc n) a none =
    let last = near_readable (a + n) (first_refused-none is_readable (suc n) a (a + n) none (omega arith) (omega arith)) in
    first_refused_around-plain is_readable (suc n) a (omega arith) ∙ none

-- ---- the accesses of an instruction that doesn't stray

unless_bare-parts : (bare : Bool) (o p : Option ℕ) → unless_bare bare (option_or o p) ≡ None → (unless_bare bare o ≡ None) × (unless_bare bare p ≡ None)
unless_bare-parts true o p h = (refl, refl)
unless_bare-parts false None p h = (refl, h)
unless_bare-parts false (Some x) p h = absurd (cc)

second_judged : (bare : Bool) (i : Instr) (from : ℕ) (a b : Span) → unless_bare bare (if is_read (Some a) then span_strays i from (Some b) else None) ≡ None
    → first_refused is_readable a.size a.at ≡ None → unless_bare bare (access_strays i from b) ≡ None
second_judged bare i from a b h read = subst (λ o. unless_bare bare (if is_all o then span_strays i from (Some b) else None) ≡ None) (readable_around a.size a.at read) h

pub reach_clear : (bare : Bool) (i : Instr) (from : ℕ) (ss : List Span) → AreFew ss → AllByRecursion (StaysOut bare i from) ss → unless_bare bare (reach_strays i from (reach_of ss)) ≡ None → Clear ss
unfolding reach_strays
reach_clear bare i from [] few out none = tt
reach_clear bare i from (a ∷ []) few out none =
    (passed_avoids bare i from a few out.0 ((unless_bare-parts bare (access_strays i from a) _ none).0), λ read. tt)
reach_clear bare i from (a ∷ b ∷ []) few out none =
    let parts = unless_bare-parts bare (access_strays i from a) _ none in
    (passed_avoids bare i from a few.0 out.0 parts.0, λ read. (passed_avoids bare i from b few.1 out.1.0 (second_judged bare i from a b parts.1 read), λ read. tt))
reach_clear bare i from (a ∷ b ∷ d ∷ rest) few out none = absurd few
