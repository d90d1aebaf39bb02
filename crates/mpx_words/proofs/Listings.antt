-- Listings of code parts in turn.
use Rattle.std.proofs.Common.{◌≡◌, ◌∙◌, ℕ, true, false, List, [], ◌∷◌, ◌++◌, length, refl, sym, ap, subst, append_assoc, append-nil, arith}
use Rattle.disasm.specs.Listing.{Lists}
use Rattle.obj_file.specs.declared.image.Segment.{Segment}
use Rattle.mpx_words.specs.Listing.{is_code_at, code_of, codes_of, IsListing, Nothing, Part, AddsCode}

-- the listing of one part
pub listing_one : (code text : List ℕ) → Lists code text → IsListing (code ∷ []) text
listing_one code text h = subst (λ (t : List ℕ). IsListing (code ∷ []) t) (append-nil text) (Part code text [] [] h Nothing)

listing_both : (xs ys : List (List ℕ)) (a b : List ℕ) → IsListing xs a → IsListing ys b → IsListing (xs ++ ys) (a ++ b)
listing_both _ ys _ b Nothing k = k
listing_both _ ys _ b (Part code text rest more h l) k = subst (λ (t : List ℕ). IsListing (code ∷ (rest ++ ys)) t) (sym (append_assoc text more b)) (Part code text (rest ++ ys) (more ++ b) h (listing_both rest ys more b l k))

-- a segment without code adds nothing
pub adds_none : (s : Segment) (old : List ℕ) → is_code_at s.at ≡ false → AddsCode s old old
adds_none s old e = ([], subst (λ codes. IsListing codes []) (sym (rw e refl)) Nothing, sym (append-nil old))

pub adds_code : (s : Segment) (bytes text old new : List ℕ) → is_code_at s.at ≡ true → bytes ≡ s.bytes → Lists bytes text → new ≡ old ++ text → AddsCode s old new
adds_code s bytes text old new e same h put = (text, subst (λ codes. IsListing codes text) (sym (rw e refl)) (listing_one s.bytes text (subst (λ (b : List ℕ). Lists b text) same h)), put)

-- what is listed when the rest is listed too
abbrev pub IsAhead : List Segment → List Segment → List ℕ → Type 0
IsAhead all rest out = (more : List ℕ) → IsListing (codes_of rest) more → IsListing (codes_of all) (out ++ more)

pub ahead_next : (all rest after : List Segment) (s : Segment) (out new : List ℕ) → rest ≡ s ∷ after → IsAhead all rest out → AddsCode s out new → IsAhead all after new
ahead_next all rest after s out new e ahead adds = λ more l.
    let here : IsListing (codes_of (s ∷ after)) (adds.0 ++ more) = listing_both (code_of s) (codes_of after) adds.0 more adds.1 l in
    let there : IsListing (codes_of all) (out ++ (adds.0 ++ more)) = ahead (adds.0 ++ more) (subst (λ (r : List Segment). IsListing (codes_of r) (adds.0 ++ more)) (sym e) here) in
    subst (λ (t : List ℕ). IsListing (codes_of all) t) (sym (append_assoc out adds.0 more) ∙ ap (λ (o : List ℕ). o ++ more) (sym adds.2)) there

pub ahead_end : (all rest : List Segment) (out : List ℕ) → length rest ≡ 0 → IsAhead all rest out → IsListing (codes_of all) out
ahead_end all [] out e ahead = subst (λ (t : List ℕ). IsListing (codes_of all) t) (append-nil out) (ahead [] Nothing)
ahead_end all (s ∷ rest) out e ahead = absurd (omega (arith, e))

-- the listing of an object's code
pub listing_same : (code bytes text : List ℕ) → bytes ≡ code → Lists bytes text → IsListing (code ∷ []) text
listing_same code bytes text e h = listing_one code text (subst (λ (b : List ℕ). Lists b text) e h)

pub ahead_start : (all : List Segment) (out : List ℕ) → out ≡ [] → IsAhead all all out
ahead_start all out e = λ more l. subst (λ (o : List ℕ). IsListing (codes_of all) (o ++ more)) (sym e) l
