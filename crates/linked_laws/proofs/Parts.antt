-- Parts keep their lengths, whatever their fields hold.
use Rattle.std.proofs.Common.{◌≡◌, refl, ◌∙◌, ℕ, ◌+◌, nat_le, ◌==◌, Bool, true, false, if◌then◌else◌, List, [], ◌∷◌, ◌++◌, length, take, drop, arith, leb-true, length-append, length-drop, length-take-le}
use Rattle.std.specs.List.{fold}
use Rattle.obj_file.specs.declared.object.Object.{Object}
use Rattle.obj_file.specs.declared.object.Fix.{Fix}
use Rattle.obj_linker.specs.declared.plan.Plan.{Plan}
use Rattle.obj_linker.specs.Fixing.{with_field, fixed, fixed_part, field_bytes, fix_value}

pub with_field_length : (bytes : List ℕ) (at : ℕ) (field : List ℕ) → length (with_field bytes at field) ≡ length bytes
with_field_length bytes at field = by (nat_le (at + length field) (length bytes)) refl
  where
    by : (b : Bool) → nat_le (at + length field) (length bytes) ≡ b → length (if b then take at bytes ++ field ++ drop (at + length field) bytes else bytes) ≡ length bytes
    by true e =
        let room = leb-true (at + length field) (length bytes) e in
        let front = length-take-le at bytes (omega arith) in
        let back = length-drop (at + length field) bytes in
        let whole = length-append (take at bytes ++ field) (drop (at + length field) bytes) in
        let two = length-append (take at bytes) field in
        omega arith
    by false e = refl

module _ (os : List Object) (plan : Plan) (object : ℕ) (o : Object) (part : ℕ) where
  pub fixed_once : (bytes : List ℕ) (f : Fix) → length (fixed os plan object o part bytes f) ≡ length bytes
  fixed_once bytes f = by (f.part == part)
    where
      by : (b : Bool) → length (if b then with_field bytes f.offset (field_bytes f.form (fix_value os plan object o f)) else bytes) ≡ length bytes
      by true = with_field_length bytes f.offset (field_bytes f.form (fix_value os plan object o f))
      by false = refl

  fixed_all : (fs : List Fix) (bytes : List ℕ) → length (fold (fixed os plan object o part) bytes fs) ≡ length bytes
  fixed_all [] bytes = refl
  fixed_all (f ∷ fs) bytes = fixed_all fs (fixed os plan object o part bytes f) ∙ fixed_once bytes f

pub code_length : (os : List Object) (plan : Plan) (object : ℕ) (o : Object) → length (fixed_part os plan object o 1) ≡ length o.code
code_length os plan object o = fixed_all os plan object o 1 o.fixes o.code

pub stored_length : (os : List Object) (plan : Plan) (object : ℕ) (o : Object) → length (fixed_part os plan object o 2) ≡ length o.stored
stored_length os plan object o = fixed_all os plan object o 2 o.fixes o.stored
