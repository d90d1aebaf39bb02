-- The instructions of the gates, each as an equation between runs.
use Rattle.std.specs.Prelude.{Bool, true, false, ◌||◌, ◌&&◌, not, if◌then◌else◌, Option, None, Ok, List, [], ◌∷◌, ◌++◌, ◌^◌, ◌%◌}
use Rattle.std.proofs.Common.{◌≡◌, ℕ, ◌+◌, ◌<◌, ◌≤◌, ◌⊎◌, inl, inr, refl, arith, ap, ◌∙◌, sym, subst}
use Rattle.std.proofs.lemmas.Bool.Decides.{nat_tests}
use Rattle.std.specs.Option.{option_or}
use Rattle.mx_base.specs.Bounds.{addresses, moved}
use Rattle.mx_base.specs.Memory.{Bytes, number_at, with_number}
use Rattle.mx_base.specs.Outside.{one_more}
use Rattle.mx_base.specs.Regions.{instrumented_code, is_in, is_readable, is_writable}
use Rattle.mx_base.specs.Services.{Guest}
use Rattle.mx_base.specs.World.{Access}
use Rattle.mx_base.proofs.MemoryLemmas.{first_refused-all, number_at-lt, AreBytes-with_number}
use Rattle.obj_file.proofs.StoredBytes.{with_number_apart}
use Rattle.x86_forms.specs.declared.instr.Instr.{Instr}
use Rattle.x86_forms.specs.declared.instr.Rm.TheVariants.{Reg as InReg, Mem as InMem}
use Rattle.x86_forms.specs.declared.instr.Instr.TheVariants.{MovTo, MovFrom, Push, Pop, JmpRm}
use Rattle.x86_forms.specs.declared.spans.Span.{Span}
use Rattle.x86_forms.specs.Processor.{Processor, address, part_written, with_reg, below_stack}
use Rattle.x86_forms.specs.Accesses.{accesses, reach_of}
use Rattle.x86_forms.specs.Requests.{Ends, Done, run}
use Rattle.x86_forms.specs.Table.{row}
use Rattle.x86_forms.specs.Watch.{is_watched, is_c_access, access_strays}
use Rattle.obj_file.specs.Machine.{State, reach_strays, left_by, reading_at, counted}
use Rattle.obj_file.specs.Runs.{c_accesses_by, c_accesses_among}
use Rattle.obj_file.specs.StoreLaw.{is_of_bounds}
use Rattle.obj_file.specs.Stored.{Stored, stored_read, stored_write}
use Rattle.call_gates.specs.Gates.{reg, at_cell}
use Rattle.obj_file.specs.Finals.{final, all_below, keeps_out, all_keep_out}
use Rattle.obj_file.proofs.FinalLaws.{each_below}
use Rattle.gate_laws.specs.Moments.{Moment, is_plain}
use Rattle.legacy_calls.specs.Legacy.{Linkage, ground}
use Rattle.gate_laws.specs.Placed.{HasCode, StandsAt}
use Rattle.gate_laws.proofs.Steps.{goes, plain_goes, clean_plain, plain_service}

-- ---- memory

abbrev pub written : Stored → ℕ → ℕ → Stored
written y a v = record { bytes = with_number 8 y.bytes a v; bounds = y.bounds }

-- 8 bytes of the cells or of the control stack
pub record IsOwn (a : ℕ) : Type 0 where
  pub low : 0x7000_0000 ≤ a
  pub place : (a + 8 ≤ 0x7000_1000) ⊎ (0x7100_0000 ≤ a)
  pub high : a + 8 ≤ 0x7200_0000

own_byte : (a x : ℕ) → IsOwn a → a ≤ x → x < a + 8 → (is_readable x ≡ true) × (is_writable x ≡ true)
unfolding is_readable is_writable
own_byte a x o from to = let l = o.low in let h = o.high in elim o.place [
  | inl p ↦ (grind (arith, nat_tests), grind (arith, nat_tests))
  | inr p ↦ (grind (arith, nat_tests), grind (arith, nat_tests))
]

pub own_read : (y : Stored) (a : ℕ) → IsOwn a → stored_read y a 8 ≡ Ok (number_at 8 y.bytes a)
unfolding stored_read
own_read y a o = rw (first_refused-all is_readable 8 a (λ x from to. (own_byte a x o from to).0)) refl

pub own_write : (y : Stored) (a v : ℕ) → IsOwn a → stored_write y a 8 v ≡ Ok (written y a v)
unfolding stored_write
own_write y a v o = rw (first_refused-all is_writable 8 a (λ x from to. (own_byte a x o from to).1)) refl

pub code_kept : (image : Bytes) (y : Stored) (a v : ℕ) → IsOwn a → HasCode image y → HasCode image (written y a v)
code_kept image y a v o h = let l = o.low in record {
  each_byte = AreBytes-with_number 8 y.bytes a v h.each_byte;
  code = λ x inside. with_number_apart 8 y.bytes a v x (inl (grind (arith, nat_tests))) ∙ h.code x inside;
}

pub either_none : (b : Bool) → ◌≡◌ {A = Option ℕ} (option_or None (if b then None else None)) None
either_none true = refl
either_none false = refl

whole_word : (v : ℕ) → v < 2 ^ 64 → v % 2 ^ 64 ≡ v
whole_word v h = omega arith

-- ---- what instructions do

low_avoids : (x : ℕ) → x < 0x8000_0000 → not (is_of_bounds x) ≡ true
unfolding is_of_bounds
low_avoids x low = grind (arith, nat_tests)

module _ (k : Linkage) (image : Bytes) where
  abbrev pub here : Processor → Stored → Guest → ℕ → ℕ → List Access → Moment
  here c y g n turns made = record { state = record { processor = c; memory = y; guest = g; steps = n }; turns = turns; accesses = made }

  abbrev pub Leads : Processor → Stored → Processor → Stored → Type 0
  Leads c y d z = (g : Guest) (n turns : ℕ) (made : List Access) → (m : ℕ) × (final (ground k) (here c y g n turns made) ≡ final (ground k) (here d z g m turns made))

  pub then_on : (c d e : Processor) (x y z : Stored) → Leads c x d y → Leads d y e z → Leads c x e z
  then_on c d e x y z p q g n turns made = let a = p g n turns made in let b = q g a.0 turns made in (b.0, a.1 ∙ b.1)

  pub append_none : (l : List Access) → l ++ [] ≡ l
  append_none [] = refl
  append_none (x ∷ l) = ap (λ (r : List Access). x ∷ r) (append_none l)

  -- an instruction that makes no access for C, by its outcome
  pub leads : (i : Instr) (size : ℕ) (c d : Processor) (y z : Stored) → StandsAt k image c.rip i size → HasCode image y → is_plain i ≡ true
      → reach_strays i c.rip (reach_of (accesses i (c.rip + size) c.regs)) ≡ None → c_accesses_among i (accesses i (c.rip + size) c.regs) ≡ [] → all_keep_out false i c.rip (accesses i (c.rip + size) c.regs) ≡ true
      → run (ground k).store c (row i (c.rip + size) c) y ≡ Done d z → c.rip < d.rip → Leads c y d z
  leads i size c d y z st code plain fine none out does forward g n turns made =
      let s : State Stored = record { processor = c; memory = y; guest = g; steps = n } in
      let is = st.reads s refl code in
      let e = plain_goes k.reads k.outers k.preserve s i size d z st.inside st.small is plain fine does forward in
      let by : c_accesses_by s (reading_at (ground k) s) ≡ [] = rw (is, st.inside) (no_accesses i size c st.inside st.small none) in
      (one_more n, goes (ground k) s (counted (left_by s d z)) turns made [] e by (clean_plain k.reads k.outers k.preserve s i size st.inside st.small is (plain_service k.reads k.outers k.preserve i plain) out) ∙ ap (λ (l : List Access). final (ground k) (here d z g (one_more n) turns l)) (append_none made))
    where
      no_accesses : (i : Instr) (size : ℕ) (c : Processor) → is_in instrumented_code c.rip ≡ true → size ≤ 15 → c_accesses_among i (accesses i (c.rip + size) c.regs) ≡ [] → c_accesses_among i (accesses i ((c.rip + size) % 2 ^ 64) c.regs) ≡ []
      no_accesses i size c inside small none = let e : (c.rip + size) % 2 ^ 64 ≡ c.rip + size = grind (arith, nat_tests) in rw e none

  -- an instruction that asks memory for nothing
  pub free_leads : (i : Instr) (size : ℕ) (c d : Processor) (y : Stored) → StandsAt k image c.rip i size → HasCode image y → is_plain i ≡ true
      → accesses i (c.rip + size) c.regs ≡ [] → row i (c.rip + size) c ≡ Ends d → c.rip < d.rip → Leads c y d y
  unfolding reach_strays run
  free_leads i size c d y st code plain none ends forward = leads i size c d y y st code plain (rw none refl) (rw none refl) (rw none refl) (rw ends refl) forward

  -- the access of an instruction that makes none for C does not stray
  pub unwatched : (i : Instr) (from : ℕ) (s : Span) → is_in instrumented_code from ≡ true → is_c_access i s ≡ false → reach_strays i from (reach_of (s ∷ [])) ≡ None
  unfolding reach_strays access_strays is_watched
  unwatched i from s inside none = rw (inside, none) (either_none _)

  -- a word of the machine's own lies neither in the directory nor in the tables
  own_avoids : (a : ℕ) → IsOwn a → all_below 8 (λ n. not (is_of_bounds (moved a n))) ≡ true
  unfolding moved
  own_avoids a o = let h = o.high in each_below 8 (λ n. not (is_of_bounds (moved a n))) (λ n less. let e : (a + n) % addresses ≡ a + n = omega arith in subst (λ (x : ℕ). not (is_of_bounds x) ≡ true) (sym e) (low_avoids (a + n) (omega arith)))

  pub own_out : (i : Instr) (from : ℕ) (s : Span) → s.size ≡ 8 → IsOwn s.at → all_keep_out false i from (s ∷ []) ≡ true
  unfolding keeps_out is_watched is_c_access
  own_out i from s size o = rw (size, own_avoids s.at o) (either (is_watched i from s))
    where
      either : (b : Bool) → ((b || true) && true) ≡ true
      either true = refl
      either false = refl

  -- ---- cells and the control stack

  cell_address : (regs : ℕ → ℕ) (next a : ℕ) → a < 2 ^ 31 → address regs next (at_cell a) ≡ a
  unfolding address
  cell_address regs next a small = omega arith

  -- a register becomes a word of a cell
  pub load_leads : (r a v : ℕ) (size : ℕ) (c : Processor) (y : Stored) → StandsAt k image c.rip (MovFrom 64 (reg r) (at_cell a)) size → 0 < size → HasCode image y → IsOwn a → a < 2 ^ 31
      → number_at 8 y.bytes a ≡ v → Leads c y (record c { rip = c.rip + size; regs = with_reg c.regs r v }) y
  unfolding run row part_written is_c_access
  load_leads r a v size c y st some code own small is =
      let next = c.rip + size in
      let at = cell_address c.regs next a small in
      let fits : number_at 8 y.bytes a < 2 ^ 64 = number_at-lt 8 y.bytes a code.each_byte in
      let word : v % 2 ^ 64 ≡ v = omega arith in
      leads (MovFrom 64 (reg r) (at_cell a)) size c (record c { rip = next; regs = with_reg c.regs r v }) y y st code refl
      (unwatched (MovFrom 64 (reg r) (at_cell a)) c.rip _ st.inside refl) refl (own_out (MovFrom 64 (reg r) (at_cell a)) c.rip _ refl (subst IsOwn (sym at) own)) (rw (at, own_read y a own, is, word, word) refl) (omega arith)

  -- a cell becomes the word of a register
  pub store_leads : (r a v : ℕ) (size : ℕ) (c : Processor) (y : Stored) → StandsAt k image c.rip (MovTo 64 (reg r) (InMem (at_cell a))) size → 0 < size → HasCode image y → IsOwn a → a < 2 ^ 31
      → c.regs r ≡ v → v < 2 ^ 64 → Leads c y (record c { rip = c.rip + size }) (written y a v)
  unfolding run row is_c_access
  store_leads r a v size c y st some code own small is fits =
      let next = c.rip + size in
      let at = cell_address c.regs next a small in
      let word : v % 2 ^ 64 ≡ v = omega arith in
      leads (MovTo 64 (reg r) (InMem (at_cell a))) size c (record c { rip = next }) y (written y a v) st code refl
      (unwatched (MovTo 64 (reg r) (InMem (at_cell a))) c.rip _ st.inside refl) refl (own_out (MovTo 64 (reg r) (InMem (at_cell a))) c.rip _ refl (subst IsOwn (sym at) own)) (rw (at, is, word, word, own_write y a v own) refl) (omega arith)

  pub push_leads : (r sp v : ℕ) (size : ℕ) (c : Processor) (y : Stored) → StandsAt k image c.rip (Push (reg r)) size → 0 < size → HasCode image y → c.regs 4 ≡ sp + 8 → IsOwn sp
      → c.regs r ≡ v → v < 2 ^ 64 → Leads c y (record c { rip = c.rip + size; regs = with_reg c.regs 4 sp }) (written y sp v)
  unfolding run row is_c_access
  push_leads r sp v size c y st some code at own is fits =
      let next = c.rip + size in
      let high = own.high in
      let below : (sp + 8 + 0xffff_ffff_ffff_fff8) % 2 ^ 64 ≡ sp = omega arith in
      let word : v % 2 ^ 64 ≡ v = omega arith in
      leads (Push (reg r)) size c (record c { rip = next; regs = with_reg c.regs 4 sp }) y (written y sp v) st code refl
      (unwatched (Push (reg r)) c.rip _ st.inside refl) refl (own_out (Push (reg r)) c.rip _ refl (subst IsOwn (sym below ∙ ap below_stack (sym at)) own)) (rw (at, below, is, word, own_write y sp v own) refl) (omega arith)

  pub pop_leads : (r sp v : ℕ) (size : ℕ) (c : Processor) (y : Stored) → StandsAt k image c.rip (Pop (reg r)) size → 0 < size → HasCode image y → c.regs 4 ≡ sp → IsOwn sp
      → number_at 8 y.bytes sp ≡ v → Leads c y (record c { rip = c.rip + size; regs = with_reg (with_reg c.regs 4 (sp + 8)) r v }) y
  unfolding run row part_written is_c_access
  pop_leads r sp v size c y st some code at own is =
      let next = c.rip + size in
      let high = own.high in
      let above : (sp + 8) % 2 ^ 64 ≡ sp + 8 = omega arith in
      let fits : number_at 8 y.bytes sp < 2 ^ 64 = number_at-lt 8 y.bytes sp code.each_byte in
      let word : v % 2 ^ 64 ≡ v = omega arith in
      leads (Pop (reg r)) size c (record c { rip = next; regs = with_reg (with_reg c.regs 4 (sp + 8)) r v }) y y st code refl
      (unwatched (Pop (reg r)) c.rip _ st.inside refl) refl (own_out (Pop (reg r)) c.rip _ refl (subst IsOwn (sym at) own)) (rw (at, own_read y sp own, is, above, word) refl) (omega arith)

  -- a jump to a higher address in a register
  pub jump_leads : (r a size : ℕ) (c : Processor) (y : Stored) → StandsAt k image c.rip (JmpRm true (InReg (reg r))) size → HasCode image y → c.regs r ≡ a → a < 2 ^ 64 → c.rip < a
      → Leads c y (record c { rip = a }) y
  unfolding row
  jump_leads r a size c y st code is fits forward =
      let word : a % 2 ^ 64 ≡ a = omega arith in
      free_leads (JmpRm true (InReg (reg r))) size c (record c { rip = a }) y st code refl refl (rw (is, word) refl) forward
