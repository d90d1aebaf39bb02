-- What a linked image holds are bytes, where the parts of its objects hold bytes.
use Rattle.std.proofs.Common.{◌≡◌, sym, subst, ℕ, zero, suc, ◌+◌, ◌<◌, ◌≤◌, nat_le, ◌&&◌, ◌==◌, Bool, true, false, if◌then◌else◌, List, [], ◌∷◌, ◌++◌, length, take, drop, arith}
use Rattle.std.specs.List.{All, AllByRecursion, fold}
use Rattle.std.specs.Int.{w32, w64, cast_unsigned}
use Rattle.std.proofs.lemmas.Bool.{and_parts}
use Rattle.std.proofs.lemmas.List.{length-map}
use Rattle.mx_base.specs.Memory.{Bytes, AreBytes, no_bytes, with_list}
use Rattle.mx_base.proofs.MemoryLemmas.{AreBytes-with_byte}
use Rattle.x86_forms.specs.Spelling.{spelling}
use Rattle.x86_forms.specs.Validity.{valid_of}
use Rattle.x86_forms.proofs.ShortCode.{spelling-short}
use Rattle.obj_file.specs.declared.object.Object.{Object}
use Rattle.obj_file.specs.declared.object.Fix.{Fix}
use Rattle.obj_file.specs.declared.image.Image.{Image}
use Rattle.obj_file.specs.declared.image.Segment.{Segment}
use Rattle.obj_file.specs.InTurn.{le}
use Rattle.obj_file.specs.Loaded.{with_segments}
use Rattle.obj_file.specs.StoreLaw.{HaveBytes}
use Rattle.call_gates.specs.Gates.{Code, bytes_of_code, is_sound, start_gate, landing_gate, outer_gate, stub_gate, InCode, InLegacyCode}
use Rattle.call_gates.proofs.Onward.{start_gates, landing_gates, stub_gates, outer_gates}
use Rattle.obj_linker.specs.declared.parts.SymbolId.{SymbolId}
use Rattle.obj_linker.specs.declared.plan.Plan.{Plan}
use Rattle.obj_linker.specs.Symbols.{numbered, ids, sig_at}
use Rattle.obj_linker.specs.Placement.{plan_of, spot_of, own_address, outer_at, stub_at}
use Rattle.obj_linker.specs.Fixing.{meant_by, field_bytes, fix_value, with_field, fixed, fixed_part}
use Rattle.obj_linker.specs.Gating.{mpx_gates, told_signature}
use Rattle.obj_linker.specs.Image.{segment, segments, part_segment, main_id, outer_segment, stub_segment, code_part, code_segment, legacy_segment, data_segment}
use Rattle.obj_linker.proofs.Members.{by_recursion}
use Rattle.linked_laws.specs.Linked.{AreLinked, HoldsBytes, bytes_in}
use Rattle.linked_laws.proofs.Answer.{passed}
use Rattle.linked_laws.proofs.GateSizes.{told_registers}

abbrev IsByte : ℕ → Type 0
IsByte b = b < 256

abbrev Are : List ℕ → Type 0
Are bs = AllByRecursion IsByte bs

abbrev IsOfBytes : Segment → Type 0
IsOfBytes s = Are s.bytes

-- ---- lists

join : {X : Type 0} (P : X → Type 0) (xs ys : List X) → AllByRecursion P xs → AllByRecursion P ys → AllByRecursion P (xs ++ ys)
join P [] ys p q = q
join P (x ∷ xs) ys p q = (p.0, join P xs ys p.1 q)

taken : (n : ℕ) (bs : List ℕ) → Are bs → Are (take n bs)
taken zero bs h = tt
taken (suc n) [] h = tt
taken (suc n) (b ∷ bs) h = (h.0, taken n bs h.1)

dropped : (n : ℕ) (bs : List ℕ) → Are bs → Are (drop n bs)
dropped zero bs h = h
dropped (suc n) [] h = tt
dropped (suc n) (b ∷ bs) h = dropped n bs h.1

by_index : {X : Type 0} (P : X → Type 0) (xs : List X) → AllByRecursion P xs → All P xs
by_index P [] all k d h = absurd (let no : ⊥ = omega (arith, h) in no)
by_index P (x ∷ xs) all zero d h = all.0
by_index P (x ∷ xs) all (suc k) d h = by_index P xs all.1 k d (let less : k < length xs = omega (arith, h) in less)

all_numbered : {X A : Type 0} (P : A → Type 0) (Q : X → Type 0) (f : ℕ → X → List A) → ((n : ℕ) (x : X) → Q x → AllByRecursion P (f n x)) → (n : ℕ) (xs : List X) → AllByRecursion Q xs → AllByRecursion P (numbered f n xs)
all_numbered P Q f one n [] all = tt
all_numbered P Q f one n (x ∷ xs) all = join P (f n x) (numbered f (n + 1) xs) (one n x all.0) (all_numbered P Q f one (n + 1) xs all.1)

-- ---- memory

with_list_bytes : (bs : List ℕ) (m : Bytes) (a : ℕ) → AreBytes m → Are bs → AreBytes (with_list m a bs)
unfolding with_list
with_list_bytes [] m a h all = h
with_list_bytes (b ∷ bs) m a h all = with_list_bytes bs (λ x. if x == a then b else m x) (a + 1) (AreBytes-with_byte m a b h all.0) all.1

with_segments_bytes : (xs : List Segment) (m : Bytes) → AreBytes m → AllByRecursion IsOfBytes xs → AreBytes (with_segments m xs)
with_segments_bytes [] m h all = h
with_segments_bytes (s ∷ xs) m h all = with_segments_bytes xs (with_list m s.at s.bytes) (with_list_bytes s.bytes m s.at h all.0) all.1

-- ---- parts

eight : (n : ℕ) → Are (le w64 n)
unfolding le
eight n = (omega arith, (omega arith, (omega arith, (omega arith, (omega arith, (omega arith, (omega arith, (omega arith, tt))))))))

four : (n : ℕ) → Are (le w32 n)
unfolding le
four n = (omega arith, (omega arith, (omega arith, (omega arith, tt))))

module _ (os : List Object) (plan : Plan) where
  field_of_bytes : (k : ℕ) (o : Object) (f : Fix) → Are (field_bytes f.form (fix_value os plan k o f))
  field_of_bytes k o f = by (f.form == 0)
    where
      by : (b : Bool) → Are (if b then le w64 (cast_unsigned w64 (fix_value os plan k o f)) else le w32 (cast_unsigned w32 (fix_value os plan k o f)))
      by true = eight (cast_unsigned w64 (fix_value os plan k o f))
      by false = four (cast_unsigned w32 (fix_value os plan k o f))

  with_field_bytes : (bytes : List ℕ) (at : ℕ) (field : List ℕ) → Are bytes → Are field → Are (with_field bytes at field)
  with_field_bytes bytes at field h g = by (nat_le (at + length field) (length bytes))
    where
      by : (b : Bool) → Are (if b then take at bytes ++ field ++ drop (at + length field) bytes else bytes)
      by true = join IsByte (take at bytes ++ field) (drop (at + length field) bytes) (join IsByte (take at bytes) field (taken at bytes h) g) (dropped (at + length field) bytes h)
      by false = h

  fixed_bytes : (k : ℕ) (o : Object) (part : ℕ) (fs : List Fix) (bytes : List ℕ) → Are bytes → Are (fold (fixed os plan k o part) bytes fs)
  fixed_bytes k o part [] bytes h = h
  fixed_bytes k o part (f ∷ fs) bytes h = fixed_bytes k o part fs (fixed os plan k o part bytes f) (by (f.part == part))
    where
      by : (b : Bool) → Are (if b then with_field bytes f.offset (field_bytes f.form (fix_value os plan k o f)) else bytes)
      by true = with_field_bytes bytes f.offset (field_bytes f.form (fix_value os plan k o f)) h (field_of_bytes k o f)
      by false = h

  part_of_bytes : (at : ℕ) (bytes : List ℕ) → Are bytes → AllByRecursion IsOfBytes (part_segment at bytes)
  part_of_bytes at bytes h = by (length bytes == 0)
    where
      by : (b : Bool) → AllByRecursion IsOfBytes (if b then [] else segment at bytes ∷ [])
      by true = tt
      by false = (h, tt)

  code_of_bytes : (k : ℕ) (o : Object) → HoldsBytes o → AllByRecursion IsOfBytes (code_part os plan k o)
  code_of_bytes k o h = part_of_bytes (spot_of plan k).code (fixed_part os plan k o 1) (fixed_bytes k o 1 o.fixes o.code (by_recursion IsByte o.code h.code))

  either : (b : Bool) (xs ys : List Segment) → AllByRecursion IsOfBytes xs → AllByRecursion IsOfBytes ys → AllByRecursion IsOfBytes (if b then xs else ys)
  either true xs ys h g = h
  either false xs ys h g = g

  codes_of_bytes : (k : ℕ) (o : Object) → HoldsBytes o → AllByRecursion IsOfBytes (code_segment os plan k o)
  codes_of_bytes k o h = either o.legacy [] (code_part os plan k o) tt (code_of_bytes k o h)

  legacies_of_bytes : (k : ℕ) (o : Object) → HoldsBytes o → AllByRecursion IsOfBytes (legacy_segment os plan k o)
  legacies_of_bytes k o h = either o.legacy (code_part os plan k o) [] (code_of_bytes k o h) tt

  stored_of_bytes : (k : ℕ) (o : Object) → HoldsBytes o → AllByRecursion IsOfBytes (data_segment os plan k o)
  stored_of_bytes k o h = part_of_bytes (spot_of plan k).stored (fixed_part os plan k o 2) (fixed_bytes k o 2 o.fixes o.stored (by_recursion IsByte o.stored h.stored))

-- ---- gates

code_bytes : (code : Code) → is_sound code ≡ true → Are (bytes_of_code code)
code_bytes [] h = tt
code_bytes (x ∷ rest) h =
    let parts = and_parts (valid_of x.0 && (length (spelling x.0) == x.1)) (is_sound rest) h in
    let mine = and_parts (valid_of x.0) (length (spelling x.0) == x.1) parts.0 in
    join IsByte (spelling x.0) (bytes_of_code rest) (by_recursion IsByte (spelling x.0) (spelling-short x.0 mine.0).bytes) (code_bytes rest parts.1)

start_bytes : (main : ℕ) → InCode main → Are (mpx_gates.start main)
unfolding mpx_gates
start_bytes main h = (let gate = start_gates main h in code_bytes (start_gate main) gate.sound)

landing_bytes : Are mpx_gates.landing
unfolding mpx_gates
landing_bytes = (let gate = landing_gates in code_bytes landing_gate gate.sound)

outer_bytes : (sig : List ℕ) (inner at : ℕ) → InCode inner → InCode at → Are (mpx_gates.outer sig inner at)
unfolding mpx_gates
outer_bytes sig inner at there here =
    (let gate = outer_gates (told_signature sig) inner at (told_registers sig) there here in code_bytes (outer_gate (told_signature sig) inner at) gate.sound)

stub_bytes : (sig : List ℕ) (target at : ℕ) → InLegacyCode target → InCode at → Are (mpx_gates.stub sig target at)
unfolding mpx_gates
stub_bytes sig target at there here =
    (let gate = stub_gates (told_signature sig) target at (told_registers sig) there here in code_bytes (stub_gate (told_signature sig) target at) gate.sound)

outers_of_bytes : (os : List Object) (plan : Plan) (n : ℕ) (xs : List SymbolId) → AllByRecursion (λ id. InCode (own_address os plan id)) xs → n + length xs ≤ 65_536
    → AllByRecursion IsOfBytes (numbered (outer_segment mpx_gates os plan) n xs)
outers_of_bytes os plan n [] all few = tt
outers_of_bytes os plan n (id ∷ xs) all few =
    (outer_bytes (sig_at os id) (own_address os plan id) (outer_at n) all.0 (omega arith, omega arith), outers_of_bytes os plan (n + 1) xs all.1 (omega arith))

stubs_of_bytes : (os : List Object) (plan : Plan) (n : ℕ) (xs : List SymbolId) → AllByRecursion (λ id. InLegacyCode (own_address os plan (meant_by os plan id))) xs
    → ((g : ℕ) → g < n + length xs → InCode (stub_at plan g)) → AllByRecursion IsOfBytes (numbered (stub_segment mpx_gates os plan) n xs)
stubs_of_bytes os plan n [] all here = tt
stubs_of_bytes os plan n (id ∷ xs) all here = (
  stub_bytes (sig_at os id) (own_address os plan (meant_by os plan id)) (stub_at plan n) all.0 (here n (omega arith)),
  stubs_of_bytes os plan (n + 1) xs all.1 (λ g less. here g (omega (arith, less))),
)

-- ---- the image

segments_of_bytes : (os : List Object) (v : Image) → AreLinked os v → All HoldsBytes os → AllByRecursion IsOfBytes (segments mpx_gates os (plan_of os))
segments_of_bytes os v l hold =
    let p = passed os v l in
    let plan = plan_of os in
    let objects = by_recursion HoldsBytes os hold in
    let inner = by_recursion (λ id. InCode (own_address os plan id)) (ids plan.functions) p.reach.inner in
    let target = by_recursion (λ id. InLegacyCode (own_address os plan (meant_by os plan id))) (ids plan.stubs) p.reach.target in
    let outers : List Segment = numbered (outer_segment mpx_gates os plan) 0 (ids plan.functions) in
    let codes : List Segment = numbered (code_segment os plan) 0 os in
    let stubs : List Segment = numbered (stub_segment mpx_gates os plan) 0 (ids plan.stubs) in
    let legacies : List Segment = numbered (legacy_segment os plan) 0 os in
    let stored : List Segment = numbered (data_segment os plan) 0 os in
    let few : length (ids plan.functions) ≤ 65_536 = (let same = length-map plan.functions (λ (e : List ℕ × SymbolId). e.1) in let own = p.sizes.functions in omega arith) in
    let same_stubs : length (ids plan.stubs) ≡ length plan.stubs = length-map plan.stubs (λ (e : List ℕ × SymbolId). e.1) in (
      start_bytes (own_address os plan (main_id plan.definitions)) p.reach.main,
      (
        landing_bytes,
        join IsOfBytes (outers ++ codes ++ stubs ++ legacies) stored
            (join IsOfBytes (outers ++ codes ++ stubs) legacies
            (join IsOfBytes (outers ++ codes) stubs
            (join IsOfBytes outers codes (outers_of_bytes os plan 0 (ids plan.functions) inner (omega arith)) (all_numbered IsOfBytes HoldsBytes (code_segment os plan) (codes_of_bytes os plan) 0 os objects))
            (stubs_of_bytes os plan 0 (ids plan.stubs) target (λ g less. p.reach.stubs g (omega (arith, less, same_stubs)))))
            (all_numbered IsOfBytes HoldsBytes (legacy_segment os plan) (legacies_of_bytes os plan) 0 os objects))
            (all_numbered IsOfBytes HoldsBytes (data_segment os plan) (stored_of_bytes os plan) 0 os objects),
      ),
    )

all_have : (xs : List Segment) → AllByRecursion IsOfBytes xs → HaveBytes xs
all_have [] all = tt
all_have (s ∷ xs) all = (by_index IsByte s.bytes all.0, all_have xs all.1)

pub segments_have_bytes : (os : List Object) (v : Image) → AreLinked os v → All HoldsBytes os → HaveBytes v.segments
segments_have_bytes os v l hold = subst (λ (w : Image). HaveBytes w.segments) (sym (passed os v l).image) (all_have (segments mpx_gates os (plan_of os)) (segments_of_bytes os v l hold))

pub image_of_bytes : (os : List Object) (v : Image) → AreLinked os v → All HoldsBytes os → AreBytes (bytes_in v)
image_of_bytes os v l hold =
    with_segments_bytes v.segments no_bytes (λ a. omega arith)
    (subst (λ (w : Image). AllByRecursion IsOfBytes w.segments) (sym (passed os v l).image) (segments_of_bytes os v l hold))
