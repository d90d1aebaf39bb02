-- Fix-ups whose values fit, where there are no faults, and loops over what is got.
use Rattle.std.proofs.Common.{◌≡◌, refl, sym, ap, ◌∙◌, ℕ, ◌+◌, ◌<◌, Bool, true, false, IsTrue, if◌then◌else◌, Some, List, [], ◌∷◌, ◌++◌, length, take, get_or, slice_get}
use Rattle.obj_file.specs.declared.object.Object.{Object}
use Rattle.obj_linker.specs.declared.fault.LinkFault.TheVariants.{FarFix}
use Rattle.obj_linker.specs.declared.plan.Plan.{Plan}
use Rattle.obj_linker.specs.Symbols.{numbered}
use Rattle.obj_linker.specs.Fixing.{fits, fix_value}
use Rattle.obj_linker.specs.Faults.{far_fix, far_fixes}
use Rattle.obj_linker.specs.Fitting.{FixesFit}
use Rattle.obj_linker.proofs.Passing.{none_at}
use Rattle.obj_linker.proofs.Members.{got}
use Rattle.obj_linker.proofs.Steps.{grown}

fit_true : (object fix : ℕ) (b : Bool) → (if b then [] else FarFix object fix ∷ []) ≡ [] → IsTrue b
fit_true object fix true h = refl
fit_true object fix false h = cc

pub fixes_fit : (os : List Object) (plan : Plan) (k : ℕ) (o : Object) → far_fixes os plan ≡ [] → k < length os → o ≡ get_or os k o → FixesFit os plan k o
fixes_fit os plan k o none h is =
    let all : numbered (far_fix os plan k o) 0 o.fixes ≡ [] =
    ap (λ (x : Object). numbered (far_fix os plan k x) 0 x.fixes) is ∙ none_at (λ object (x : Object). numbered (far_fix os plan object x) 0 x.fixes) os k o h none in
    record { each = λ j d less. fit_true k j (fits (get_or o.fixes j d).form (fix_value os plan k o (get_or o.fixes j d))) (none_at (far_fix os plan k o) o.fixes j d less all) }

pub got_more : {X A : Type 0} (f : ℕ → X → List A) (xs : List X) (k : ℕ) (x : X) (before now : List A) → slice_get xs k ≡ Some x → now ≡ before ++ numbered f 0 (take k xs)
    → now ++ f k x ≡ before ++ numbered f 0 (take (k + 1) xs)
got_more f xs k x before now h is = (let g = got xs k x h in ap (λ y. now ++ f k y) (sym (g.is x)) ∙ grown f xs k x before now g.less is)
