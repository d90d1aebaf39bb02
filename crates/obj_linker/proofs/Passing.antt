-- First faults of lists that are put together.
use Rattle.std.proofs.Common.{◌≡◌, ◌≢◌, refl, sym, ap, ◌∙◌, ℕ, zero, suc, ◌+◌, ◌<◌, Some, Result, Ok, Err, IfErr, List, [], ◌∷◌, ◌++◌, length, take, drop, get_or, subst, append_assoc, add-zero, arith}
use Rattle.obj_file.specs.declared.image.Image.{Image}
use Rattle.obj_linker.specs.declared.fault.LinkFault.{LinkFault}
use Rattle.obj_linker.specs.declared.fault.LinkFault.TheVariants.{OutOfMemory, Twice, Missing, Clash, NoMain, ManyFunctions, CodeLarge, LegacyLarge, GlobalsLarge, ImageLarge, FarFix}
use Rattle.obj_linker.specs.Symbols.{numbered}
use Rattle.obj_linker.specs.Faults.{unless}
use Rattle.obj_linker.specs.Told.{first, IsFirst, Passes}

along : (e : LinkFault) (xs ys : List LinkFault) → ((f : LinkFault) → first xs ≡ Some f → first ys ≡ Some f) → IsFirst e xs → IsFirst e ys
along OutOfMemory xs ys more h = tt
along (Twice name) xs ys more h = more (Twice name) h
along (Missing name) xs ys more h = more (Missing name) h
along (Clash name) xs ys more h = more (Clash name) h
along NoMain xs ys more h = more NoMain h
along (ManyFunctions n) xs ys more h = more (ManyFunctions n) h
along (CodeLarge n) xs ys more h = more (CodeLarge n) h
along (LegacyLarge n) xs ys more h = more (LegacyLarge n) h
along (GlobalsLarge n) xs ys more h = more (GlobalsLarge n) h
along (ImageLarge n) xs ys more h = more (ImageLarge n) h
along (FarFix object fix) xs ys more h = more (FarFix object fix) h

first_before : (xs ys : List LinkFault) (f : LinkFault) → first xs ≡ Some f → first (xs ++ ys) ≡ Some f
first_before [] ys f h = cc
first_before (x ∷ xs) ys f h = h

-- the first fault of a list is that of the list with others behind
pub sooner : (e : LinkFault) (xs ys : List LinkFault) → IsFirst e xs → IsFirst e (xs ++ ys)
sooner e xs ys h = along e xs (xs ++ ys) (first_before xs ys) h

-- and with none before
pub later : (e : LinkFault) (xs ys : List LinkFault) → xs ≡ [] → IsFirst e ys → IsFirst e (xs ++ ys)
later e xs ys none h = along e ys (xs ++ ys) (λ f found. ap (λ l. first (l ++ ys)) none ∙ found) h

pub both_none : {A : Type 0} (xs ys : List A) → xs ≡ [] → ys ≡ [] → xs ++ ys ≡ []
both_none xs ys h k = ap (λ l. l ++ ys) h ∙ k

pub none_before : {A : Type 0} (xs ys : List A) → xs ++ ys ≡ [] → xs ≡ []
none_before [] ys h = refl
none_before (x ∷ xs) ys h = cc

pub none_behind : {A : Type 0} (xs ys : List A) → xs ++ ys ≡ [] → ys ≡ []
none_behind [] ys h = h
none_behind (x ∷ xs) ys h = cc

-- ---- loops

-- a list of faults is that of the first k elements, then of the k-th, then of the others
pub parted : {X A : Type 0} (f : ℕ → X → List A) (xs : List X) (n k : ℕ) (d : X) → k < length xs
    → numbered f n xs ≡ numbered f n (take k xs) ++ (f (n + k) (get_or xs k d) ++ numbered f (n + k + 1) (drop (suc k) xs))
parted f [] n k d h = absurd (let no : ⊥ = omega (arith, h) in no)
parted f (x ∷ xs) n zero d h = ap (λ m. f m x ++ numbered f (m + 1) xs) (sym (add-zero n))
parted f (x ∷ xs) n (suc k) d h =
    ap (λ l. f n x ++ l) (parted f xs (n + 1) k d (let less : k < length xs = omega (arith, h) in less))
    ∙ (sym (append_assoc (f n x) (numbered f (n + 1) (take k xs)) (f (n + 1 + k) (get_or xs k d) ++ numbered f (n + 1 + k + 1) (drop (suc k) xs)))
    ∙ ap (λ m. (f n x ++ numbered f (n + 1) (take k xs)) ++ (f m (get_or xs k d) ++ numbered f (m + 1) (drop (suc k) xs))) (let e : n + 1 + k ≡ n + suc k = omega arith in e))

pub from_start : {X A : Type 0} (f : ℕ → X → List A) (xs : List X) (k : ℕ) (d : X) → k < length xs
    → numbered f 0 xs ≡ numbered f 0 (take k xs) ++ (f k (get_or xs k d) ++ numbered f (k + 1) (drop (suc k) xs))
from_start f xs k d h =
    parted f xs 0 k d h ∙ ap (λ m. numbered f 0 (take k xs) ++ (f m (get_or xs k d) ++ numbered f (m + 1) (drop (suc k) xs))) (let e : 0 + k ≡ k = omega arith in e)

-- what the k-th element gives is the first fault of all where those before give none
pub fault_at : (e : LinkFault) {X : Type 0} (f : ℕ → X → List LinkFault) (xs : List X) (k : ℕ) (d : X) → k < length xs → numbered f 0 (take k xs) ≡ []
    → IsFirst e (f k (get_or xs k d)) → IsFirst e (numbered f 0 xs)
fault_at e f xs k d h none now =
    subst (IsFirst e) (sym (from_start f xs k d h)) (later e (numbered f 0 (take k xs)) (f k (get_or xs k d) ++ numbered f (k + 1) (drop (suc k) xs)) none (sooner e (f k (get_or xs k d)) (numbered f (k + 1) (drop (suc k) xs)) now))

-- without faults each element gives none
pub none_at : {X A : Type 0} (f : ℕ → X → List A) (xs : List X) (k : ℕ) (d : X) → k < length xs → numbered f 0 xs ≡ [] → f k (get_or xs k d) ≡ []
none_at f xs k d h none =
    none_before (f k (get_or xs k d)) (numbered f (k + 1) (drop (suc k) xs))
    (none_behind (numbered f 0 (take k xs)) (f k (get_or xs k d) ++ numbered f (k + 1) (drop (suc k) xs)) (sym (from_start f xs k d h) ∙ none))

-- ---- answers

first_is : (image : Image) (faults : List LinkFault) (e : LinkFault) → first faults ≡ Some e → unless image faults ≡ Err e
first_is image [] e h = cc
first_is image (x ∷ xs) e h = (let same : x ≡ e = cc in ap Err same)

-- the first fault is what the link answers
pub told : (image : Image) (faults : List LinkFault) (e : LinkFault) → IsFirst e faults → e ≢ OutOfMemory → unless image faults ≡ Err e
told image faults OutOfMemory h not = absurd (not refl)
told image faults (Twice name) h not = first_is image faults (Twice name) h
told image faults (Missing name) h not = first_is image faults (Missing name) h
told image faults (Clash name) h not = first_is image faults (Clash name) h
told image faults NoMain h not = first_is image faults NoMain h
told image faults (ManyFunctions n) h not = first_is image faults (ManyFunctions n) h
told image faults (CodeLarge n) h not = first_is image faults (CodeLarge n) h
told image faults (LegacyLarge n) h not = first_is image faults (LegacyLarge n) h
told image faults (GlobalsLarge n) h not = first_is image faults (GlobalsLarge n) h
told image faults (ImageLarge n) h not = first_is image faults (ImageLarge n) h
told image faults (FarFix object fix) h not = first_is image faults (FarFix object fix) h

-- the answer of a check behind one that passes
pub answered : (image : Image) (before behind : List LinkFault) (r : Result Image LinkFault) → before ≡ [] → Passes r behind → IfErr r (λ e. e ≢ OutOfMemory → unless image (before ++ behind) ≡ Err e)
answered image before behind (Ok x) none h = tt
answered image before behind (Err e) none h = λ other. told image (before ++ behind) e (later e before behind none h) other
