-- Values taken from their homes and put into them.
use Rattle.step_code.specs.Homes.{IsHomeReg, IsHomeBnd, IsNumberHome, IsPairHome, Apart}
use Rattle.std.proofs.Common.{◌≡◌, ◌≢◌, ℕ, ◌+◌, ◌^◌, ◌%◌, ◌<◌, inl, inr, true, false, cond, nat_eq, ◌==◌, refl, arith, ap, ◌∙◌}
use Rattle.std.proofs.lemmas.Bool.Decides.{nat_tests}
use Rattle.mx_base.specs.declared.limits.Bounds.{Bounds as BoundsPair}
use Rattle.mx_base.specs.Bounds.{complement}
use Rattle.x86_forms.specs.declared.instr.Instr.TheVariants.{MovTo, BndmovFrom}
use Rattle.x86_forms.specs.Examples.{reg, in_reg}
use Rattle.x86_forms.specs.Processor.{Processor, part_written}
use Rattle.x86_forms.specs.Requests.{Ends}
use Rattle.x86_forms.specs.Table.{row, at_next}
use Rattle.obj_file.specs.Stored.{Stored}
use Rattle.step_code.specs.declared.homes.Home.{Home}
use Rattle.step_code.specs.declared.homes.Home.TheVariants.{Reg, Slot, Bnd}
use Rattle.step_code.specs.declared.pieces.Piece.{Piece}
use Rattle.step_code.specs.Pieces.{instr_of}
use Rattle.code_laws.specs.Views.{View, pair_at, with_word, with_bound}
use Rattle.code_laws.specs.Seen.{Setting, IsSetting}
use Rattle.code_laws.specs.Views.{number_home, pair_home, with_number_home, with_pair_home}
use Rattle.step_code.specs.Steps.{get, put, get_bounds, put_bounds}
use Rattle.code_laws.specs.Runs.{whole_of, Leads}
use Rattle.code_laws.proofs.Pieces.{leaves_all, with_reg_leaves, plain_goes, load_slot, keep_slot, load_bounds, keep_bounds}
use Rattle.step_code.specs.Homes.{IsFree}
use Rattle.code_laws.specs.Runs.{Ready}

-- ---- which homes there are

abbrev pub at_address : View → ℕ → View
at_address v next = record v { processor = at_next v.processor next }

abbrev pub with_scratch : View → ℕ → ℕ → ℕ → View
with_scratch v next r n = record v { processor = with_word (at_next v.processor next) r n }

abbrev pub with_scratch_bounds : View → ℕ → ℕ → BoundsPair → View
with_scratch_bounds v next b x = record v { processor = with_bound (at_next v.processor next) b x }

pub moved_row : (c : Processor) (next q r : ℕ) → c.regs q < 2 ^ 64 → row (MovTo 64 (reg q) (in_reg r)) next c ≡ Ends (with_word (at_next c next) r (c.regs q))
unfolding row part_written
moved_row c next q r small = let e : c.regs q % 2 ^ 64 % 2 ^ 64 ≡ c.regs q = omega arith in ap (λ (n : ℕ). Ends (with_word (at_next c next) r n)) e

bound_row : (c : Processor) (next b d : ℕ) → row (BndmovFrom b (in_reg d)) next c ≡ Ends (with_bound (at_next c next) b (c.bounds d))
unfolding row
bound_row c next b d = refl

module _ (S : Setting) (ok : IsSetting S) where
  abbrev ReadyFor : View → Stored → Piece → ℕ → Type 0
  ReadyFor v y p next = Ready S ok v y (instr_of S.label_at S.entry_at next p) next

  pub get_goes : (v : View) (y : Stored) (n next r : ℕ) (home : Home) → Ready S ok v y (instr_of S.label_at S.entry_at next (get r home)) next → IsNumberHome S.units home → IsFree r
      → Leads S (whole_of S v y n) (with_scratch v next r (number_home v home))
  get_goes v y n next r (Slot k) h fits free = load_slot S ok v y n next r k h fits free
  get_goes v y n next r (Reg q) h fits free = plain_goes S ok v y n next _ (with_word (at_next v.processor next) r (v.processor.regs q)) h (record {
    call = refl;
    return = refl;
    service = refl;
    accesses_none = refl;
    is_row = moved_row v.processor next q r (h.seen.words.regs_fit q);
    is_next = refl;
    leaves = with_reg_leaves v.processor.regs r (v.processor.regs q) free;
    preserve = refl;
  })
  get_goes v y n next r (Bnd b) h fits free = absurd fits

  pub put_goes : (v : View) (y : Stored) (n next r : ℕ) (home : Home) → Ready S ok v y (instr_of S.label_at S.entry_at next (put home r)) next → IsNumberHome S.units home
      → Leads S (whole_of S v y n) (with_number_home home (v.processor.regs r) (at_address v next))
  put_goes v y n next r (Slot k) h fits = keep_slot S ok v y n next k r h fits
  put_goes v y n next r (Reg q) h fits = plain_goes S ok v y n next _ (with_word (at_next v.processor next) q (v.processor.regs r)) h (record {
    call = refl;
    return = refl;
    service = refl;
    accesses_none = refl;
    is_row = moved_row v.processor next r q (h.seen.words.regs_fit r);
    is_next = refl;
    leaves = with_reg_leaves v.processor.regs q (v.processor.regs r) fits.free;
    preserve = refl;
  })
  put_goes v y n next r (Bnd b) h fits = absurd fits

  pub get_bounds_goes : (v : View) (y : Stored) (n next b : ℕ) (home : Home) → Ready S ok v y (instr_of S.label_at S.entry_at next (get_bounds b home)) next → IsPairHome S.units home
      → Leads S (whole_of S v y n) (with_scratch_bounds v next b (pair_home v home))
  get_bounds_goes v y n next b (Slot k) h fits = load_bounds S ok v y n next b k h fits
  get_bounds_goes v y n next b (Bnd d) h fits = plain_goes S ok v y n next _ (with_bound (at_next v.processor next) b (v.processor.bounds d)) h (record {
    call = refl;
    return = refl;
    service = refl;
    accesses_none = refl;
    is_row = bound_row v.processor next b d;
    is_next = refl;
    leaves = leaves_all v.processor.regs;
    preserve = refl;
  })
  get_bounds_goes v y n next b (Reg r) h fits = absurd fits

  pub put_bounds_goes : (v : View) (y : Stored) (n next b : ℕ) (home : Home) → Ready S ok v y (instr_of S.label_at S.entry_at next (put_bounds home b)) next → IsPairHome S.units home
      → Leads S (whole_of S v y n) (with_pair_home home (v.processor.bounds b) (at_address v next))
  put_bounds_goes v y n next b (Slot k) h fits = keep_bounds S ok v y n next k b h fits
  put_bounds_goes v y n next b (Bnd d) h fits = plain_goes S ok v y n next _ (with_bound (at_next v.processor next) d (v.processor.bounds b)) h (record {
    call = refl;
    return = refl;
    service = refl;
    accesses_none = refl;
    is_row = bound_row v.processor next d b;
    is_next = refl;
    leaves = leaves_all v.processor.regs;
    preserve = refl;
  })
  put_bounds_goes v y n next b (Reg r) h fits = absurd fits

-- ---- scratch registers are no homes

-- views that differ in scratch registers, flags and the next address alone
pub record Scratched (v u : View) : Type 0 where
  pub regs : (r : ℕ) → IsHomeReg r → u.processor.regs r ≡ v.processor.regs r
  pub bounds : (b : ℕ) → IsHomeBnd b → u.processor.bounds b ≡ v.processor.bounds b
  pub slots : u.slots ≡ v.slots

pub scratched_by : (v w u : View) → Scratched v w → Scratched w u → Scratched v u
scratched_by v w u a b = record { regs = λ r h. b.regs r h ∙ a.regs r h; bounds = λ x h. b.bounds x h ∙ a.bounds x h; slots = b.slots ∙ a.slots }

pub rax_scratched : (v : View) (next n : ℕ) → Scratched v (with_scratch v next 0 n)
rax_scratched v next n = record { regs = λ r h. ap (λ b. cond b n (v.processor.regs r)) h.rax; bounds = λ b h. refl; slots = refl }

pub rcx_scratched : (v : View) (next n : ℕ) → Scratched v (with_scratch v next 1 n)
rcx_scratched v next n = record { regs = λ r h. ap (λ b. cond b n (v.processor.regs r)) h.rcx; bounds = λ b h. refl; slots = refl }

pub rdx_scratched : (v : View) (next n : ℕ) → Scratched v (with_scratch v next 2 n)
rdx_scratched v next n = record { regs = λ r h. ap (λ b. cond b n (v.processor.regs r)) h.rdx; bounds = λ b h. refl; slots = refl }

pub bnd0_scratched : (v : View) (next : ℕ) (x : BoundsPair) → Scratched v (with_scratch_bounds v next 0 x)
bnd0_scratched v next x = record { regs = λ r h. refl; bounds = λ b h. ap (λ t. cond t x (v.processor.bounds b)) h.bnd0; slots = refl }

pub number_scratched : (units : ℕ) (v u : View) (home : Home) → Scratched v u → IsNumberHome units home → number_home u home ≡ number_home v home
number_scratched units v u (Reg r) s fits = s.regs r fits
number_scratched units v u (Slot k) s fits = ap (λ (f : ℕ → ℕ). f k) s.slots
number_scratched units v u (Bnd b) s fits = refl

pub pair_scratched : (units : ℕ) (v u : View) (home : Home) → Scratched v u → IsPairHome units home → pair_home u home ≡ pair_home v home
pair_scratched units v u (Reg r) s fits = refl
pair_scratched units v u (Slot k) s fits = ap (λ (f : ℕ → ℕ). pair_at f k) s.slots
pair_scratched units v u (Bnd b) s fits = s.bounds b fits

-- ---- homes apart

eq_false : (a b : ℕ) → a ≢ b → (a == b) ≡ false
eq_false a b h = grind (arith, nat_tests)

nat_eq_false : (a b : ℕ) → a ≢ b → nat_eq a b ≡ false
nat_eq_false a b h = grind (arith, nat_tests)

pub number_kept : (v : View) (n : ℕ) (g h : Home) → Apart false g false h → number_home (with_number_home h n v) g ≡ number_home v g
number_kept v n (Slot j) (Slot k) apart = ap (λ b. cond b n (v.slots j)) (eq_false j k (elim apart as (λ _. j ≢ k) [ inl low ↦ λ e. absurd (omega arith) | inr high ↦ λ e. absurd (omega arith) ]))
number_kept v n (Slot j) (Reg q) apart = refl
number_kept v n (Slot j) (Bnd d) apart = refl
number_kept v n (Reg r) (Slot k) apart = refl
number_kept v n (Reg r) (Reg q) apart = ap (λ b. cond b n (v.processor.regs r)) (nat_eq_false r q apart)
number_kept v n (Reg r) (Bnd d) apart = refl
number_kept v n (Bnd c) h apart = refl

pub pair_kept_number : (v : View) (n : ℕ) (g h : Home) → Apart true g false h → pair_home (with_number_home h n v) g ≡ pair_home v g
pair_kept_number v n (Slot j) (Slot k) apart = λ i. record { lb = cond (first i) n (v.slots j); ub = complement (cond (second i) n (v.slots (j + 1))) }
  where
    first : (j == k) ≡ false
    first = eq_false j k (elim apart as (λ _. j ≢ k) [ inl low ↦ λ e. absurd (omega arith) | inr high ↦ λ e. absurd (omega arith) ])

    second : (j + 1 == k) ≡ false
    second = eq_false (j + 1) k (elim apart as (λ _. j + 1 ≢ k) [ inl low ↦ λ e. absurd (omega arith) | inr high ↦ λ e. absurd (omega arith) ])
pair_kept_number v n (Slot j) (Reg q) apart = refl
pair_kept_number v n (Slot j) (Bnd d) apart = refl
pair_kept_number v n (Reg r) (Slot k) apart = refl
pair_kept_number v n (Reg r) (Reg q) apart = refl
pair_kept_number v n (Reg r) (Bnd d) apart = refl
pair_kept_number v n (Bnd c) (Slot k) apart = refl
pair_kept_number v n (Bnd c) (Reg q) apart = refl
pair_kept_number v n (Bnd c) (Bnd d) apart = refl

pub number_kept_pair : (v : View) (x : BoundsPair) (g h : Home) → Apart false g true h → number_home (with_pair_home h x v) g ≡ number_home v g
number_kept_pair v x (Slot j) (Slot k) apart = λ i. cond (second i) (complement x.ub) (cond (first i) x.lb (v.slots j))
  where
    first : (j == k) ≡ false
    first = eq_false j k (elim apart as (λ _. j ≢ k) [ inl low ↦ λ e. absurd (omega arith) | inr high ↦ λ e. absurd (omega arith) ])

    second : (j == k + 1) ≡ false
    second = eq_false j (k + 1) (elim apart as (λ _. j ≢ k + 1) [ inl low ↦ λ e. absurd (omega arith) | inr high ↦ λ e. absurd (omega arith) ])
number_kept_pair v x (Slot j) (Reg q) apart = refl
number_kept_pair v x (Slot j) (Bnd d) apart = refl
number_kept_pair v x (Reg r) (Slot k) apart = refl
number_kept_pair v x (Reg r) (Reg q) apart = refl
number_kept_pair v x (Reg r) (Bnd d) apart = refl
number_kept_pair v x (Bnd c) h apart = refl

pub pair_kept_pair : (v : View) (x : BoundsPair) (g h : Home) → Apart true g true h → pair_home (with_pair_home h x v) g ≡ pair_home v g
pair_kept_pair v x (Slot j) (Slot k) apart = λ i. record { lb = cond (b i) (complement x.ub) (cond (a i) x.lb (v.slots j)); ub = complement (cond (d i) (complement x.ub) (cond (c i) x.lb (v.slots (j + 1)))) }
  where
    a : (j == k) ≡ false
    a = eq_false j k (elim apart as (λ _. j ≢ k) [ inl low ↦ λ e. absurd (omega arith) | inr high ↦ λ e. absurd (omega arith) ])

    b : (j == k + 1) ≡ false
    b = eq_false j (k + 1) (elim apart as (λ _. j ≢ k + 1) [ inl low ↦ λ e. absurd (omega arith) | inr high ↦ λ e. absurd (omega arith) ])

    c : (j + 1 == k) ≡ false
    c = eq_false (j + 1) k (elim apart as (λ _. j + 1 ≢ k) [ inl low ↦ λ e. absurd (omega arith) | inr high ↦ λ e. absurd (omega arith) ])

    d : (j + 1 == k + 1) ≡ false
    d = eq_false (j + 1) (k + 1) (elim apart as (λ _. j + 1 ≢ k + 1) [ inl low ↦ λ e. absurd (omega arith) | inr high ↦ λ e. absurd (omega arith) ])
pair_kept_pair v x (Slot j) (Reg q) apart = refl
pair_kept_pair v x (Slot j) (Bnd d) apart = refl
pair_kept_pair v x (Reg r) (Slot k) apart = refl
pair_kept_pair v x (Reg r) (Reg q) apart = refl
pair_kept_pair v x (Reg r) (Bnd d) apart = refl
pair_kept_pair v x (Bnd c) (Slot k) apart = refl
pair_kept_pair v x (Bnd c) (Reg q) apart = refl
pair_kept_pair v x (Bnd c) (Bnd d) apart = ap (λ b. cond b x (v.processor.bounds c)) (nat_eq_false c d apart)

-- what is put is there
pub number_put : (units : ℕ) (v : View) (n : ℕ) (h : Home) → IsNumberHome units h → number_home (with_number_home h n v) h ≡ n
number_put units v n (Slot k) fits = let e : (k == k) ≡ true = grind (arith, nat_tests) in ap (λ b. cond b n (v.slots k)) e
number_put units v n (Reg r) fits = let e : nat_eq r r ≡ true = grind (arith, nat_tests) in ap (λ b. cond b n (v.processor.regs r)) e
number_put units v n (Bnd b) fits = absurd fits

pub pair_put : (units : ℕ) (v : View) (x : BoundsPair) (h : Home) → x.ub < 2 ^ 64 → IsPairHome units h → pair_home (with_pair_home h x v) h ≡ x
pair_put units v x (Slot k) small fits = λ i. record { lb = cond (b i) (complement x.ub) (cond (a i) x.lb (v.slots k)); ub = (ap (λ t. complement (cond t (complement x.ub) (cond (k + 1 == k) x.lb (v.slots (k + 1))))) c ∙ back) i }
  where
    a : (k == k) ≡ true
    a = grind (arith, nat_tests)

    b : (k == k + 1) ≡ false
    b = grind (arith, nat_tests)

    c : (k + 1 == k + 1) ≡ true
    c = grind (arith, nat_tests)

    back : complement (complement x.ub) ≡ x.ub
    back = omega arith
pair_put units v x (Bnd d) small fits = let e : nat_eq d d ≡ true = grind (arith, nat_tests) in ap (λ b. cond b x (v.processor.bounds d)) e
pair_put units v x (Reg r) small fits = absurd fits
