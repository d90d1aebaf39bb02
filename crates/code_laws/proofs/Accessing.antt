-- Numbers read and written for C.
use Rattle.std.specs.Prelude.{◌||◌, ◌&&◌}
use Rattle.obj_file.specs.Finals.{keeps_out, all_keep_out}
use Rattle.std.specs.Prelude.{not, if◌then◌else◌, Result, Ok, pos}
use Rattle.std.proofs.Common.{◌≡◌, ℕ, ◌+◌, ◌*◌, ◌^◌, ◌%◌, ◌<◌, ◌≤◌, Bool, true, false, nat_eq, Option, None, Some, List, [], ◌∷◌, refl, arith, ap, ◌∙◌, sym}
use Rattle.std.specs.Option.{option_or}
use Rattle.std.proofs.lemmas.Bool.Decides.{nat_tests}
use Rattle.mx_base.specs.declared.numbers.IntKind.{IntKind}
use Rattle.mx_base.specs.declared.numbers.IntKind.TheVariants.{I8, U8, I16, U16, I32, U32, I64, U64}
use Rattle.mx_base.specs.declared.stops.Stop.TheVariants as stop
use Rattle.mx_base.specs.Access.{refusal}
use Rattle.mx_base.specs.Bounds.{addresses}
use Rattle.mx_base.specs.Memory.{Bytes, number_at, with_number, first_refused, first_refused_around}
use Rattle.mx_base.specs.Numbers.{size_of, extended, value_of, word_of, number_of, residue, as_signed}
use Rattle.mx_base.specs.Regions.{is_readable, is_writable, is_sealed}
use Rattle.mx_base.specs.World.{World, read_noted, number_written}
use Rattle.mx_base.specs.Walk.{walk_end}
use Rattle.mx_base.proofs.MemoryLemmas.{first_refused-none}
use Rattle.std.proofs.lemmas.Bool.{cases_lt}
use Rattle.std.proofs.Common.{inl, inr}
use Rattle.mx_base.proofs.NumbersLemmas.{residue-lt, residue-as_signed}
use Rattle.mx_base.proofs.MemoryLemmas.{number_at-same, number_at-lt, with_number_below, with_number_above, AreBytes-with_number}
use Rattle.obj_file.proofs.StoredBytes.{with_number_both}
use Rattle.x86_forms.specs.Arithmetic.{low, signed, bits_of}
use Rattle.code_laws.proofs.Frames.{stack_sealed, code_sealed, cells_sealed}
use Rattle.x86_forms.specs.declared.instr.Instr.{Instr}
use Rattle.x86_forms.specs.declared.instr.Rm.TheVariants.{Mem as InMem}
use Rattle.x86_forms.specs.declared.instr.Instr.TheVariants.{MovTo}
use Rattle.x86_forms.specs.declared.spans.Span.{Span}
use Rattle.x86_forms.specs.Accesses.{accesses, reach_of}
use Rattle.x86_forms.specs.Examples.{reg, based}
use Rattle.x86_forms.specs.Processor.{Processor, address, part_written}
use Rattle.x86_forms.specs.Requests.{Program, Ends, Reads, Writes}
use Rattle.x86_forms.specs.Table.{row, at_next}
use Rattle.x86_forms.specs.Watch.{is_watched, is_c_access, is_c_operand, operand_of, access_strays, first_sealed}
use Rattle.obj_file.specs.Machine.{reach_strays, is_read, is_call, is_return, is_service}
use Rattle.obj_file.specs.Runs.{c_accesses_among}
use Rattle.obj_file.specs.Stored.{Stored, stored_read, stored_write}
use Rattle.code_laws.specs.Views.{View, On, unless_refused, with_word}
use Rattle.step_code.specs.Pieces.{read_instr}
use Rattle.code_laws.specs.Seen.{Setting, IsSetting, machine_of, Holds, state_of}
use Rattle.code_laws.proofs.Events.{inside_code}
use Rattle.code_laws.proofs.Leading.{executed_reads, executed_misread, executed_writes, executed_miswritten, After, Here, goes_on, halts_here, strays_here}
use Rattle.code_laws.specs.Runs.{whole_of}
use Rattle.code_laws.proofs.Pieces.{with_reg_leaves, word_words, forward}
use Rattle.step_code.specs.Homes.{IsFree}
use Rattle.code_laws.specs.Runs.{Ready}
use Rattle.code_laws.proofs.Refusing.{is_unsealed, refused_read, refused_write, read_within, written_within, unsealed_byte, with_number-low}

-- the access of an instruction that makes one for C
pub record IsOfC (i : Instr) : Type 0 where
  pub call : is_call i ≡ false
  pub return : is_return i ≡ false
  pub service : is_service i ≡ false
  pub operand : is_c_operand (operand_of i) ≡ true

c_watched : (b : Bool) (o : Option ℕ) → option_or o (if b then None else None) ≡ o
c_watched true None = refl
c_watched false None = refl
c_watched true (Some x) = refl
c_watched false (Some x) = refl

c_span : ℕ → ℕ → Bool → Span
c_span at size write = record { at = at; size = size; write = write; implicit = false }

c_strays : (from at size : ℕ) (write : Bool) (i : Instr) → 0x0100_0000 ≤ from → from < 0x1100_0000 → IsOfC i → reach_strays i from (reach_of (record { at = at; size = size; write = write; implicit = false } ∷ [])) ≡ first_refused_around is_unsealed size at
unfolding reach_strays access_strays is_watched is_c_access first_sealed
c_strays from at size write i low high c = rw (inside_code from low high, c.operand) (c_watched (is_read (Some (record { at = at; size = size; write = write; implicit = false }))) (first_refused_around is_unsealed size at))

or_true : (b c : Bool) → b ≡ true → ((b || c) && true) ≡ true
or_true true c h = refl
or_true false c h = absurd (cc)

c_out : (from at size : ℕ) (write : Bool) (i : Instr) → 0x0100_0000 ≤ from → from < 0x1100_0000 → IsOfC i → all_keep_out false i from (record { at = at; size = size; write = write; implicit = false } ∷ []) ≡ true
unfolding keeps_out is_watched is_c_access
c_out from at size write i low high c = rw (inside_code from low high, c.operand) refl

c_noted : (at size : ℕ) (write : Bool) (i : Instr) → IsOfC i → c_accesses_among i (record { at = at; size = size; write = write; implicit = false } ∷ []) ≡ record { write = write; at = at; size = size } ∷ []
unfolding is_c_access
c_noted at size write i c = rw c.operand refl

module _ (S : Setting) (ok : IsSetting S) where
  -- a read of so many bytes at an address
  pub record ReadsAt (v : View) (next : ℕ) (i : Instr) (a size : ℕ) (r : ℕ) (value : ℕ → ℕ) : Type 0 where
    pub c : IsOfC i
    pub some : 0 < size
    pub few : size ≤ 8
    pub spans : accesses i next v.processor.regs ≡ record { at = a; size = size; write = false; implicit = false } ∷ []
    pub rest : ℕ → Program
    pub is_row : row i next v.processor ≡ Reads a size false rest
    pub ends : (x : ℕ) → x < 256 ^ size → rest x ≡ Ends (with_word (at_next v.processor next) r (value x))
    pub small : (x : ℕ) → value x < 2 ^ 64

  same_number : (v : View) (y : Stored) (a size : ℕ) → Holds S v.slots v.world y → size ≤ 8 → 0 < size → first_refused_around is_unsealed size a ≡ None → first_refused is_readable size a ≡ None
      → number_at size y.bytes a ≡ number_at size v.world.bytes a
  same_number v y a size h few some none fine =
      number_at-same size y.bytes v.world.bytes a (λ x from to. h.open_bytes x (unsealed_byte size a x (omega arith) none (read_within size a some (omega arith) fine) from to))

  pub read_goes : (v : View) (y : Stored) (n next a size r : ℕ) (i : Instr) (value : ℕ → ℕ) → Ready S ok v y i next → IsFree r → a < 2 ^ 64 → ReadsAt v next i a size r value
      → After S (whole_of S v y n) (unless_refused v (refusal false size a) (On (record v { processor = with_word (at_next v.processor next) r (value (number_at size v.world.bytes a)); world = read_noted size v.world a })))
  unfolding stored_read
  read_goes v y n next a size r i value h free low q =
      let here : Here S ok v y i next = record { seen = h.seen; stands = h.stands; ordinary = record { call = q.c.call; return = q.c.return; service = q.c.service }; out = ap (all_keep_out false i v.processor.rip) q.spans ∙ c_out v.processor.rip a size false i h.stands.low (let short = forward S ok v y i next h in let last = h.stands.high in omega arith) q.c } in
      let ahead = forward S ok v y i next h in
      let end = h.stands.high in
      let c : Processor = with_word (at_next v.processor next) r (value (number_at size v.world.bytes a)) in
      let some = q.some in
      let few = q.few in
      let from : reach_strays i v.processor.rip (reach_of (accesses i next v.processor.regs)) ≡ first_refused_around is_unsealed size a =
      ap (λ (l : List Span). reach_strays i v.processor.rip (reach_of l)) q.spans ∙ c_strays v.processor.rip a size false i h.stands.low (omega arith) q.c in
      refused_read size a (λ o. After S (whole_of S v y n) (unless_refused v o (On (record v { processor = c; world = read_noted size v.world a })))) some (omega arith) low
      (λ none fine.
      let same = same_number v y a size h.seen.memory few some none fine in
      goes_on S ok v (record v { processor = c; world = read_noted size v.world a }) y y n next i (record { write = false; at = a; size = size } ∷ []) here
      (from ∙ none) (ap (c_accesses_among i) q.spans ∙ c_noted a size false i q.c)
      (executed_reads (machine_of S) i next (state_of v y n) a size (number_at size y.bytes a) false q.rest c q.is_row (rw fine refl)
      (q.ends (number_at size y.bytes a) (number_at-lt size y.bytes a h.seen.memory.each_byte) ∙ ap (λ (x : ℕ). let t : Processor = at_next v.processor next in Ends (with_word t r (value x))) same))
      ahead refl refl
      (record {
        memory = record { open_bytes = h.seen.memory.open_bytes; store = h.seen.memory.store; frame = h.seen.memory.frame; frozen = h.seen.memory.frozen; code = h.seen.memory.code; data_cell = h.seen.memory.data_cell; legacy_cell = h.seen.memory.legacy_cell; depth_cell = h.seen.memory.depth_cell; each_byte = h.seen.memory.each_byte; kept_words = h.seen.memory.kept_words; guest_fits = h.seen.memory.guest_fits };
        words = word_words (at_next v.processor next) r (value (number_at size v.world.bytes a)) (q.small (number_at size v.world.bytes a)) (record { regs_fit = h.seen.words.regs_fit; bounds_fit = h.seen.words.bounds_fit });
        stack = (with_reg_leaves v.processor.regs r (value (number_at size v.world.bytes a)) free).rsp ∙ h.seen.stack;
        preserve = h.seen.preserve;
        far = let leaves = with_reg_leaves v.processor.regs r (value (number_at size v.world.bytes a)) free in record {
          rbx = leaves.rbx ∙ h.seen.far.rbx;
          rbp = leaves.rbp ∙ h.seen.far.rbp;
          r12 = leaves.r12 ∙ h.seen.far.r12;
          r13 = leaves.r13 ∙ h.seen.far.r13;
          r14 = leaves.r14 ∙ h.seen.far.r14;
          r15 = leaves.r15 ∙ h.seen.far.r15;
        };
      }))
      (λ x strays. strays_here S ok v y n next x i here (from ∙ strays))
      (λ x none misses. halts_here S ok v y n next i (stop.Unmapped x) _ here (from ∙ none) (executed_misread (machine_of S) i next (state_of v y n) a size x false q.rest q.is_row (rw misses refl)) refl h.seen.memory.store)

  -- a write of so many bytes at an address, of the number x, whose low bytes are those of what is written
  pub record WritesAt (v : View) (next : ℕ) (i : Instr) (a size x : ℕ) : Type 0 where
    pub c : IsOfC i
    pub some : 0 < size
    pub few : size ≤ 8
    pub spans : accesses i next v.processor.regs ≡ record { at = a; size = size; write = true; implicit = false } ∷ []
    pub value : ℕ
    pub is_row : row i next v.processor ≡ Writes a size value false (Ends (at_next v.processor next))
    pub same : (m : Bytes) → with_number size m a value ≡ with_number size m a x

  written_open : (slots : ℕ → ℕ) (w : World) (y : Stored) (a size x : ℕ) → Holds S slots w y → size ≤ 8 → first_refused_around is_unsealed size a ≡ None → a + size ≤ addresses
      → Holds S slots (number_written size w a x) (record { bytes = with_number size y.bytes a x; bounds = y.bounds })
  written_open slots w y a size x h few none within = record {
    open_bytes = λ z is. with_number_both size y.bytes w.bytes a x z (h.open_bytes z is);
    store = h.store;
    frame = λ k low. number_at-same 8 (with_number size y.bytes a x) y.bytes (S.sp + 8 * k) (λ z from to. apart z (let l = ok.low in let u = ok.high in stack_sealed z (omega arith) (omega arith))) ∙ h.frame k low;
    frozen = λ z from to. apart z (let l = ok.low in stack_sealed z (omega arith) to) ∙ h.frozen z from to;
    code = λ z from to. apart z (code_sealed z from to) ∙ h.code z from to;
    data_cell = number_at-same 8 (with_number size y.bytes a x) y.bytes 0x7000_0010 (λ z from to. apart z (cells_sealed z (omega arith) (omega arith))) ∙ h.data_cell;
    legacy_cell = number_at-same 8 (with_number size y.bytes a x) y.bytes 0x7000_0008 (λ z from to. apart z (cells_sealed z (omega arith) (omega arith))) ∙ h.legacy_cell;
    depth_cell = number_at-same 8 (with_number size y.bytes a x) y.bytes 0x7000_0018 (λ z from to. apart z (cells_sealed z (omega arith) (omega arith))) ∙ h.depth_cell;
    each_byte = AreBytes-with_number size y.bytes a x h.each_byte;
    kept_words = h.kept_words;
    guest_fits = h.guest_fits;
  }
    where
      apart : (z : ℕ) → is_sealed z ≡ true → with_number size y.bytes a x z ≡ y.bytes z
      apart z sealed = elim (cases_lt z a) [
        | inl below ↦ with_number_below size y.bytes a x z below
        | inr above ↦ elim (cases_lt z (a + size)) [
          | inl inside ↦ let open_one = unsealed_byte size a z (omega arith) none within above inside in absurd (cc)
          | inr beyond ↦ with_number_above size y.bytes a x z beyond
        ]
      ]

  pub write_goes : (v : View) (y : Stored) (n next a size x : ℕ) (i : Instr) → Ready S ok v y i next → a < 2 ^ 64 → WritesAt v next i a size x
      → After S (whole_of S v y n) (unless_refused v (refusal true size a) (On (record v { processor = at_next v.processor next; world = number_written size v.world a x })))
  unfolding stored_write
  write_goes v y n next a size x i h low q =
      let here : Here S ok v y i next = record { seen = h.seen; stands = h.stands; ordinary = record { call = q.c.call; return = q.c.return; service = q.c.service }; out = ap (all_keep_out false i v.processor.rip) q.spans ∙ c_out v.processor.rip a size true i h.stands.low (let short = forward S ok v y i next h in let last = h.stands.high in omega arith) q.c } in
      let ahead = forward S ok v y i next h in
      let end = h.stands.high in
      let some = q.some in
      let few = q.few in
      let from : reach_strays i v.processor.rip (reach_of (accesses i next v.processor.regs)) ≡ first_refused_around is_unsealed size a =
      ap (λ (l : List Span). reach_strays i v.processor.rip (reach_of l)) q.spans ∙ c_strays v.processor.rip a size true i h.stands.low (omega arith) q.c in
      let z : Stored = record { bytes = with_number size y.bytes a x; bounds = y.bounds } in
      refused_write size a (λ o. After S (whole_of S v y n) (unless_refused v o (On (record v { processor = at_next v.processor next; world = number_written size v.world a x })))) some (omega arith) low
      (λ none fine.
      goes_on S ok v (record v { processor = at_next v.processor next; world = number_written size v.world a x }) y z n next i (record { write = true; at = a; size = size } ∷ []) here
      (from ∙ none) (ap (c_accesses_among i) q.spans ∙ c_noted a size true i q.c)
      (executed_writes (machine_of S) i next (state_of v y n) a size q.value false (at_next v.processor next) z q.is_row (rw fine (ap (λ (m : Bytes). let t : Result Stored _ = Ok (record { bytes = m; bounds = y.bounds }) in t) (q.same y.bytes))))
      ahead refl refl
      (record {
        memory = written_open v.slots v.world y a size x h.seen.memory few none (written_within size a some (omega arith) fine);
        words = record { regs_fit = h.seen.words.regs_fit; bounds_fit = h.seen.words.bounds_fit };
        stack = h.seen.stack;
        preserve = h.seen.preserve;
        far = h.seen.far;
      }))
      (λ x strays. strays_here S ok v y n next x i here (from ∙ strays))
      (λ x none misses. halts_here S ok v y n next i (stop.Unmapped x) _ here (from ∙ none) (executed_miswritten (machine_of S) i next (state_of v y n) a size q.value x false (Ends (at_next v.processor next)) q.is_row (rw misses refl)) refl h.seen.memory.store)

  -- ---- each type

  at_base : (v : View) (next p : ℕ) → v.processor.regs p < 2 ^ 64 → address v.processor.regs next (based p (pos 0)) ≡ v.processor.regs p
  unfolding address
  at_base v next p small = omega arith

  part_64 : (old v : ℕ) → v < 2 ^ 64 → part_written 64 old v ≡ v
  unfolding part_written
  part_64 old v small = omega arith

  pub extended-small : (k : IntKind) (x : ℕ) → extended k x < 2 ^ 64
  unfolding extended word_of
  extended-small k x = residue-lt (2 ^ 64) (value_of k x) (omega arith)

  pub reads_by : (v : View) (next r p size : ℕ) (i : Instr) (f value : ℕ → ℕ) → IsOfC i → 0 < size → size ≤ 8
      → accesses i next v.processor.regs ≡ record { at = address v.processor.regs next (based p (pos 0)); size = size; write = false; implicit = false } ∷ []
      → row i next v.processor ≡ Reads (address v.processor.regs next (based p (pos 0))) size false (λ x. Ends (with_word (at_next v.processor next) r (f x)))
      → ((x : ℕ) → x < 256 ^ size → f x ≡ value x) → ((x : ℕ) → value x < 2 ^ 64) → v.processor.regs p < 2 ^ 64
      → ReadsAt v next i (v.processor.regs p) size r value
  reads_by v next r p size i f value c some few spans is same words small = record {
    c = c;
    some = some;
    few = few;
    spans = spans ∙ ap (λ (a : ℕ). let s : List Span = record { at = a; size = size; write = false; implicit = false } ∷ [] in s) (at_base v next p small);
    rest = λ x. Ends (with_word (at_next v.processor next) r (f x));
    is_row = is ∙ ap (λ (a : ℕ). Reads a size false (λ x. Ends (with_word (at_next v.processor next) r (f x)))) (at_base v next p small);
    ends = λ x low. ap (λ (n : ℕ). let t : Processor = at_next v.processor next in Ends (with_word t r n)) (same x low);
    small = words;
  }

  pub signed_8 : (old x : ℕ) → part_written 64 old (bits_of 64 (signed 8 (low 8 x))) ≡ extended I8 x
  unfolding part_written extended word_of value_of number_of
  signed_8 old x = let e = residue-lt (2 ^ 64) (as_signed 256 (x % 256)) (omega arith) in omega arith

  pub signed_16 : (old x : ℕ) → part_written 64 old (bits_of 64 (signed 16 (low 16 x))) ≡ extended I16 x
  unfolding part_written extended word_of value_of number_of
  signed_16 old x = let e = residue-lt (2 ^ 64) (as_signed 65536 (x % 65536)) (omega arith) in omega arith

  pub signed_32 : (old x : ℕ) → part_written 64 old (bits_of 64 (signed 32 (low 32 x))) ≡ extended I32 x
  unfolding part_written extended word_of value_of number_of
  signed_32 old x = let e = residue-lt (2 ^ 64) (as_signed 4294967296 (x % 4294967296)) (omega arith) in omega arith

  pub plain_8 : (old x : ℕ) → part_written 32 old (low 8 x) ≡ extended U8 x
  unfolding part_written extended word_of value_of number_of residue
  plain_8 old x = omega arith

  pub plain_16 : (old x : ℕ) → part_written 32 old (low 16 x) ≡ extended U16 x
  unfolding part_written extended word_of value_of number_of residue
  plain_16 old x = omega arith

  pub plain_32 : (old x : ℕ) → part_written 32 old (low 32 x) ≡ extended U32 x
  unfolding part_written extended word_of value_of number_of residue
  plain_32 old x = omega arith

  pub plain_64 : (old x : ℕ) → part_written 64 old (low 64 x) ≡ extended U64 x
  unfolding part_written extended word_of value_of number_of residue
  plain_64 old x = omega arith

  pub low_word : (old x : ℕ) → x < 2 ^ 64 → part_written 64 old (low 64 x) ≡ extended I64 x
  unfolding part_written extended word_of value_of number_of
  low_word old x small = let e = residue-as_signed (2 ^ 63) x small in let f : x % 2 ^ 64 ≡ x = omega arith in rw (f, f) (sym e)

  pub reads_at : (kind : IntKind) (v : View) (next r p : ℕ) → nat_eq p 4 ≡ false → v.processor.regs p < 2 ^ 64 → ReadsAt v next (read_instr kind r p) (v.processor.regs p) (size_of kind) r (extended kind)
  unfolding row
  reads_at I8 v next r p base small = reads_by v next r p 1 _ (λ x. part_written 64 (v.processor.regs r) (bits_of 64 (signed 8 (low 8 x)))) (extended I8) (record { call = refl; return = refl; service = refl; operand = ap not base }) (omega arith) (omega arith) refl refl (λ x few. signed_8 (v.processor.regs r) x) (extended-small I8) small
  reads_at U8 v next r p base small = reads_by v next r p 1 _ (λ x. part_written 32 (v.processor.regs r) (low 8 x)) (extended U8) (record { call = refl; return = refl; service = refl; operand = ap not base }) (omega arith) (omega arith) refl refl (λ x few. plain_8 (v.processor.regs r) x) (extended-small U8) small
  reads_at I16 v next r p base small = reads_by v next r p 2 _ (λ x. part_written 64 (v.processor.regs r) (bits_of 64 (signed 16 (low 16 x)))) (extended I16) (record { call = refl; return = refl; service = refl; operand = ap not base }) (omega arith) (omega arith) refl refl (λ x few. signed_16 (v.processor.regs r) x) (extended-small I16) small
  reads_at U16 v next r p base small = reads_by v next r p 2 _ (λ x. part_written 32 (v.processor.regs r) (low 16 x)) (extended U16) (record { call = refl; return = refl; service = refl; operand = ap not base }) (omega arith) (omega arith) refl refl (λ x few. plain_16 (v.processor.regs r) x) (extended-small U16) small
  reads_at I32 v next r p base small = reads_by v next r p 4 _ (λ x. part_written 64 (v.processor.regs r) (bits_of 64 (signed 32 (low 32 x)))) (extended I32) (record { call = refl; return = refl; service = refl; operand = ap not base }) (omega arith) (omega arith) refl refl (λ x few. signed_32 (v.processor.regs r) x) (extended-small I32) small
  reads_at U32 v next r p base small = reads_by v next r p 4 _ (λ x. part_written 32 (v.processor.regs r) (low 32 x)) (extended U32) (record { call = refl; return = refl; service = refl; operand = ap not base }) (omega arith) (omega arith) refl refl (λ x few. plain_32 (v.processor.regs r) x) (extended-small U32) small
  reads_at I64 v next r p base small = reads_by v next r p 8 _ (λ x. part_written 64 (v.processor.regs r) (low 64 x)) (extended I64) (record { call = refl; return = refl; service = refl; operand = ap not base }) (omega arith) (omega arith) refl refl (λ x few. low_word (v.processor.regs r) x few) (extended-small I64) small
  reads_at U64 v next r p base small = reads_by v next r p 8 _ (λ x. part_written 64 (v.processor.regs r) (low 64 x)) (extended U64) (record { call = refl; return = refl; service = refl; operand = ap not base }) (omega arith) (omega arith) refl refl (λ x few. plain_64 (v.processor.regs r) x) (extended-small U64) small

  pub writes_by : (v : View) (next r p size : ℕ) (i : Instr) (value : ℕ) → IsOfC i → 0 < size → size ≤ 8
      → accesses i next v.processor.regs ≡ record { at = address v.processor.regs next (based p (pos 0)); size = size; write = true; implicit = false } ∷ []
      → row i next v.processor ≡ Writes (address v.processor.regs next (based p (pos 0))) size value false (Ends (at_next v.processor next))
      → value ≡ v.processor.regs r % 256 ^ size → v.processor.regs p < 2 ^ 64
      → WritesAt v next i (v.processor.regs p) size (v.processor.regs r)
  writes_by v next r p size i value c some few spans is same small = record {
    c = c;
    some = some;
    few = few;
    spans = spans ∙ ap (λ (a : ℕ). let s : List Span = record { at = a; size = size; write = true; implicit = false } ∷ [] in s) (at_base v next p small);
    value = value;
    is_row = is ∙ ap (λ (a : ℕ). Writes a size value false (Ends (at_next v.processor next))) (at_base v next p small);
    same = λ m. ap (λ (n : ℕ). with_number size m (v.processor.regs p) n) same ∙ with_number-low size m (v.processor.regs p) (v.processor.regs r);
  }

  abbrev pub write_instr : IntKind → ℕ → ℕ → Instr
  write_instr kind p r = MovTo (8 * size_of kind) (reg r) (InMem (based p (pos 0)))

  pub writes_at : (kind : IntKind) (v : View) (next p r : ℕ) → nat_eq p 4 ≡ false → v.processor.regs p < 2 ^ 64 → WritesAt v next (write_instr kind p r) (v.processor.regs p) (size_of kind) (v.processor.regs r)
  unfolding row
  writes_at I8 v next p r base small = writes_by v next r p 1 _ (v.processor.regs r % 256 % 256) (record { call = refl; return = refl; service = refl; operand = ap not base }) (omega arith) (omega arith) refl refl (omega arith) small
  writes_at U8 v next p r base small = writes_by v next r p 1 _ (v.processor.regs r % 256 % 256) (record { call = refl; return = refl; service = refl; operand = ap not base }) (omega arith) (omega arith) refl refl (omega arith) small
  writes_at I16 v next p r base small = writes_by v next r p 2 _ (v.processor.regs r % 65536 % 65536) (record { call = refl; return = refl; service = refl; operand = ap not base }) (omega arith) (omega arith) refl refl (omega arith) small
  writes_at U16 v next p r base small = writes_by v next r p 2 _ (v.processor.regs r % 65536 % 65536) (record { call = refl; return = refl; service = refl; operand = ap not base }) (omega arith) (omega arith) refl refl (omega arith) small
  writes_at I32 v next p r base small = writes_by v next r p 4 _ (v.processor.regs r % 4294967296 % 4294967296) (record { call = refl; return = refl; service = refl; operand = ap not base }) (omega arith) (omega arith) refl refl (omega arith) small
  writes_at U32 v next p r base small = writes_by v next r p 4 _ (v.processor.regs r % 4294967296 % 4294967296) (record { call = refl; return = refl; service = refl; operand = ap not base }) (omega arith) (omega arith) refl refl (omega arith) small
  writes_at I64 v next p r base small = writes_by v next r p 8 _ (v.processor.regs r % 2 ^ 64 % 2 ^ 64) (record { call = refl; return = refl; service = refl; operand = ap not base }) (omega arith) (omega arith) refl refl (omega arith) small
  writes_at U64 v next p r base small = writes_by v next r p 8 _ (v.processor.regs r % 2 ^ 64 % 2 ^ 64) (record { call = refl; return = refl; service = refl; operand = ap not base }) (omega arith) (omega arith) refl refl (omega arith) small

  readable_near : (a : ℕ) → is_readable a ≡ true → a < walk_end
  unfolding is_readable
  readable_near a h = grind (arith, nat_tests)

  writable_near : (a : ℕ) → is_writable a ≡ true → a < walk_end
  unfolding is_writable
  writable_near a h = grind (arith, nat_tests)

  -- a pointer that is read is a word, and its address has bounds
  pub pointer_fits : (v : View) (y : Stored) (a : ℕ) → Holds S v.slots v.world y → a < 2 ^ 64 → refusal false 8 a ≡ None → (number_at 8 v.world.bytes a < 2 ^ 64) × (a < walk_end)
  pointer_fits v y a h low is = refused_read 8 a (λ o. o ≡ None → (number_at 8 v.world.bytes a < 2 ^ 64) × (a < walk_end)) (omega arith) (omega arith) low
      (λ none fine e. (let small = number_at-lt 8 y.bytes a h.each_byte in let same = same_number v y a 8 h (omega arith) (omega arith) none fine in omega arith, readable_near a (first_refused-none is_readable 8 a a fine (omega arith) (omega arith))))
      (λ x strays e. absurd (cc)) (λ x none misses e. absurd (cc)) is

  pub written_near : (a : ℕ) → a < 2 ^ 64 → refusal true 8 a ≡ None → a < walk_end
  written_near a low is = refused_write 8 a (λ o. o ≡ None → a < walk_end) (omega arith) (omega arith) low
      (λ none fine e. writable_near a (first_refused-none is_writable 8 a a fine (omega arith) (omega arith)))
      (λ x strays e. absurd (cc)) (λ x none misses e. absurd (cc)) is

  pub extended-word : (x : ℕ) → x < 2 ^ 64 → extended U64 x ≡ x
  unfolding extended word_of value_of number_of residue
  extended-word x small = omega arith
