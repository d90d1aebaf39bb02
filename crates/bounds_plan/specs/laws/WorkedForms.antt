-- Programs that have every form of expression, initialiser and statement, as syntax trees.
use Rattle.std.specs.Prelude.{true, false, None, Some, [], ◌∷◌, codes}
use Rattle.mx_base.specs.declared.numbers.IntKind.TheVariants.{I8, U8, I16, I32, U32, I64, U64}
use Rattle.c_tree.specs.declared.operators.UnaryOp.TheVariants as u
use Rattle.c_tree.specs.declared.operators.BinaryOp.TheVariants as o
use Rattle.c_tree.specs.declared.operators.Logical.TheVariants as l
use Rattle.mx_base.specs.declared.operators.Arithmetic.TheVariants as a
use Rattle.mx_base.specs.declared.operators.Comparison.TheVariants as c
use Rattle.mx_base.specs.declared.services.CService.TheVariants as in_c
use Rattle.c_tree.specs.declared.tree.ItemKind.TheVariants as k
use Rattle.c_tree.specs.declared.tree.Base.TheVariants as b
use Rattle.c_tree.specs.declared.tree.ExprKind.TheVariants as e
use Rattle.c_tree.specs.declared.tree.InitKind.TheVariants as i
use Rattle.c_tree.specs.declared.tree.StmtKind.TheVariants as s
use Rattle.c_types.specs.Types.{Void, Int, Pointer, Array, Struct}
use Rattle.bounds_plan.specs.laws.WorkedSources.{Source, expr, init, stmt, decl, item}
use Rattle.c_check_rules.specs.declared.predeclared.Bind.TheVariants.{Global, Local, Fun, Service}
use Rattle.bounds_plan.specs.elaboration.Source.{Private, Frame}

-- ---- programs

-- int main(void){ char c = 200; unsigned char u = 200; short s = 70000; unsigned n = 0 - 1; long l = n; int i = -7; unsigned long w = i;
-- print(c); print(u); print(s); print(l); print(n + 1); print(i / 2); print(i % 3); print(i >> 1); print(n >> 4); print(c * u); print(1 << (i + 40));
-- print(i < n); print(i < l); print(~i); print(-u); print(!i); print(!0); print((char)511); print((long)(unsigned)-1); print(w >> 60);
-- print(i ? c : n); print(0x80000000 + 0); print((i & 12) | (u ^ 5)); print(l == n || 1 / 0); print(i == 0 && 1 / 0); print(!(w == i));
-- return 300; }
abbrev pub calculates : Source
calculates = record {
  tree = record {
    items = item 1 1 (k.Fun (decl 1 1 (b.Int I32) 0 (codes "main") ([])) ([]) (Some (stmt 1 15 (s.Block (stmt 1 17 (s.Local (decl 1 17 (b.Int I8) 0 (codes "c") ([])) (Some (init 1 26 (i.One (expr 1 26 (e.Number 200 I32)))))) ∷ stmt 1 31 (s.Local (decl 1 31 (b.Int U8) 0 (codes "u") ([])) (Some (init 1 49 (i.One (expr 1 49 (e.Number 200 I32)))))) ∷ stmt 1 54 (s.Local (decl 1 54 (b.Int I16) 0 (codes "s") ([])) (Some (init 1 64 (i.One (expr 1 64 (e.Number 70000 I32)))))) ∷ stmt 1 71 (s.Local (decl 1 71 (b.Int U32) 0 (codes "n") ([])) (Some (init 1 84 (i.One (expr 1 84 (e.Binary (o.Arithmetic a.Sub) (expr 1 84 (e.Number 0 I32)) (expr 1 88 (e.Number 1 I32)))))))) ∷ stmt 1 91 (s.Local (decl 1 91 (b.Int I64) 0 (codes "l") ([])) (Some (init 1 100 (i.One (expr 1 100 (e.Var (codes "n"))))))) ∷ stmt 1 103 (s.Local (decl 1 103 (b.Int I32) 0 (codes "i") ([])) (Some (init 1 111 (i.One (expr 1 111 (e.Unary u.Neg (expr 1 112 (e.Number 7 I32)))))))) ∷ stmt 1 115 (s.Local (decl 1 115 (b.Int U64) 0 (codes "w") ([])) (Some (init 1 133 (i.One (expr 1 133 (e.Var (codes "i"))))))) ∷ stmt 2 1 (s.Value (Some (expr 2 1 (e.Call (codes "print") (expr 2 7 (e.Var (codes "c")) ∷ []))))) ∷ stmt 2 11 (s.Value (Some (expr 2 11 (e.Call (codes "print") (expr 2 17 (e.Var (codes "u")) ∷ []))))) ∷ stmt 2 21 (s.Value (Some (expr 2 21 (e.Call (codes "print") (expr 2 27 (e.Var (codes "s")) ∷ []))))) ∷ stmt 2 31 (s.Value (Some (expr 2 31 (e.Call (codes "print") (expr 2 37 (e.Var (codes "l")) ∷ []))))) ∷ stmt 2 41 (s.Value (Some (expr 2 41 (e.Call (codes "print") (expr 2 47 (e.Binary (o.Arithmetic a.Add) (expr 2 47 (e.Var (codes "n"))) (expr 2 51 (e.Number 1 I32))) ∷ []))))) ∷ stmt 2 55 (s.Value (Some (expr 2 55 (e.Call (codes "print") (expr 2 61 (e.Binary (o.Arithmetic a.Div) (expr 2 61 (e.Var (codes "i"))) (expr 2 65 (e.Number 2 I32))) ∷ []))))) ∷ stmt 2 69 (s.Value (Some (expr 2 69 (e.Call (codes "print") (expr 2 75 (e.Binary (o.Arithmetic a.Rem) (expr 2 75 (e.Var (codes "i"))) (expr 2 79 (e.Number 3 I32))) ∷ []))))) ∷ stmt 2 83 (s.Value (Some (expr 2 83 (e.Call (codes "print") (expr 2 89 (e.Binary (o.Arithmetic a.Shr) (expr 2 89 (e.Var (codes "i"))) (expr 2 94 (e.Number 1 I32))) ∷ []))))) ∷ stmt 2 98 (s.Value (Some (expr 2 98 (e.Call (codes "print") (expr 2 104 (e.Binary (o.Arithmetic a.Shr) (expr 2 104 (e.Var (codes "n"))) (expr 2 109 (e.Number 4 I32))) ∷ []))))) ∷ stmt 2 113 (s.Value (Some (expr 2 113 (e.Call (codes "print") (expr 2 119 (e.Binary (o.Arithmetic a.Mul) (expr 2 119 (e.Var (codes "c"))) (expr 2 123 (e.Var (codes "u")))) ∷ []))))) ∷ stmt 2 127 (s.Value (Some (expr 2 127 (e.Call (codes "print") (expr 2 133 (e.Binary (o.Arithmetic a.Shl) (expr 2 133 (e.Number 1 I32)) (expr 2 139 (e.Binary (o.Arithmetic a.Add) (expr 2 139 (e.Var (codes "i"))) (expr 2 143 (e.Number 40 I32))))) ∷ []))))) ∷ stmt 3 1 (s.Value (Some (expr 3 1 (e.Call (codes "print") (expr 3 7 (e.Binary (o.Comparison c.Less) (expr 3 7 (e.Var (codes "i"))) (expr 3 11 (e.Var (codes "n")))) ∷ []))))) ∷ stmt 3 15 (s.Value (Some (expr 3 15 (e.Call (codes "print") (expr 3 21 (e.Binary (o.Comparison c.Less) (expr 3 21 (e.Var (codes "i"))) (expr 3 25 (e.Var (codes "l")))) ∷ []))))) ∷ stmt 3 29 (s.Value (Some (expr 3 29 (e.Call (codes "print") (expr 3 35 (e.Unary u.BitNot (expr 3 36 (e.Var (codes "i")))) ∷ []))))) ∷ stmt 3 40 (s.Value (Some (expr 3 40 (e.Call (codes "print") (expr 3 46 (e.Unary u.Neg (expr 3 47 (e.Var (codes "u")))) ∷ []))))) ∷ stmt 3 51 (s.Value (Some (expr 3 51 (e.Call (codes "print") (expr 3 57 (e.Unary u.Not (expr 3 58 (e.Var (codes "i")))) ∷ []))))) ∷ stmt 3 62 (s.Value (Some (expr 3 62 (e.Call (codes "print") (expr 3 68 (e.Unary u.Not (expr 3 69 (e.Number 0 I32))) ∷ []))))) ∷ stmt 3 73 (s.Value (Some (expr 3 73 (e.Call (codes "print") (expr 3 79 (e.Cast (b.Int I8) 0 (expr 3 85 (e.Number 511 I32))) ∷ []))))) ∷ stmt 3 91 (s.Value (Some (expr 3 91 (e.Call (codes "print") (expr 3 97 (e.Cast (b.Int I64) 0 (expr 3 103 (e.Cast (b.Int U32) 0 (expr 3 113 (e.Unary u.Neg (expr 3 114 (e.Number 1 I32))))))) ∷ []))))) ∷ stmt 3 118 (s.Value (Some (expr 3 118 (e.Call (codes "print") (expr 3 124 (e.Binary (o.Arithmetic a.Shr) (expr 3 124 (e.Var (codes "w"))) (expr 3 129 (e.Number 60 I32))) ∷ []))))) ∷ stmt 4 1 (s.Value (Some (expr 4 1 (e.Call (codes "print") (expr 4 7 (e.Cond (expr 4 7 (e.Var (codes "i"))) (expr 4 11 (e.Var (codes "c"))) (expr 4 15 (e.Var (codes "n")))) ∷ []))))) ∷ stmt 4 19 (s.Value (Some (expr 4 19 (e.Call (codes "print") (expr 4 25 (e.Binary (o.Arithmetic a.Add) (expr 4 25 (e.Number 2147483648 U32)) (expr 4 38 (e.Number 0 I32))) ∷ []))))) ∷ stmt 4 42 (s.Value (Some (expr 4 42 (e.Call (codes "print") (expr 4 48 (e.Binary (o.Arithmetic a.BitOr) (expr 4 49 (e.Binary (o.Arithmetic a.BitAnd) (expr 4 49 (e.Var (codes "i"))) (expr 4 53 (e.Number 12 I32)))) (expr 4 60 (e.Binary (o.Arithmetic a.BitXor) (expr 4 60 (e.Var (codes "u"))) (expr 4 64 (e.Number 5 I32))))) ∷ []))))) ∷ stmt 4 69 (s.Value (Some (expr 4 69 (e.Call (codes "print") (expr 4 75 (e.Binary (o.Logical l.Or) (expr 4 75 (e.Binary (o.Comparison c.Equal) (expr 4 75 (e.Var (codes "l"))) (expr 4 80 (e.Var (codes "n"))))) (expr 4 85 (e.Binary (o.Arithmetic a.Div) (expr 4 85 (e.Number 1 I32)) (expr 4 89 (e.Number 0 I32))))) ∷ []))))) ∷ stmt 4 93 (s.Value (Some (expr 4 93 (e.Call (codes "print") (expr 4 99 (e.Binary (o.Logical l.And) (expr 4 99 (e.Binary (o.Comparison c.Equal) (expr 4 99 (e.Var (codes "i"))) (expr 4 104 (e.Number 0 I32)))) (expr 4 109 (e.Binary (o.Arithmetic a.Div) (expr 4 109 (e.Number 1 I32)) (expr 4 113 (e.Number 0 I32))))) ∷ []))))) ∷ stmt 4 117 (s.Value (Some (expr 4 117 (e.Call (codes "print") (expr 4 123 (e.Unary u.Not (expr 4 125 (e.Binary (o.Comparison c.Equal) (expr 4 125 (e.Var (codes "w"))) (expr 4 130 (e.Var (codes "i")))))) ∷ []))))) ∷ stmt 5 1 (s.Return (Some (expr 5 8 (e.Number 300 I32)))) ∷ [])))))
        ∷ [];
  };
  meanings = record {
    kinds = Int I32 ∷ Int I32 ∷ Int I32 ∷ Int I32 ∷ Int I32 ∷ Int I32 ∷ Int U32 ∷ Int I32 ∷ Int I32 ∷ Int I32 ∷ Int I8 ∷ Void ∷ Int U8 ∷ Void ∷ Int I16 ∷ Void ∷ Int I64 ∷ Void ∷ Int U32 ∷ Int I32 ∷ Int U32 ∷ Void ∷ Int I32 ∷ Int I32 ∷ Int I32 ∷ Void ∷ Int I32 ∷ Int I32 ∷ Int I32 ∷ Void ∷ Int I32 ∷ Int I32 ∷ Int I32 ∷ Void ∷ Int U32 ∷ Int I32 ∷ Int U32 ∷ Void ∷ Int I8 ∷ Int U8 ∷ Int I32 ∷ Void ∷ Int I32 ∷ Int I32 ∷ Int I32 ∷ Int I32 ∷ Int I32 ∷ Void ∷ Int I32 ∷ Int U32 ∷ Int I32 ∷ Void ∷ Int I32 ∷ Int I64 ∷ Int I32 ∷ Void ∷ Int I32 ∷ Int I32 ∷ Void ∷ Int U8 ∷ Int I32 ∷ Void ∷ Int I32 ∷ Int I32 ∷ Void ∷ Int I32 ∷ Int I32 ∷ Void ∷ Int I32 ∷ Int I8 ∷ Void ∷ Int I32 ∷ Int I32 ∷ Int U32 ∷ Int I64 ∷ Void ∷ Int U64 ∷ Int I32 ∷ Int U64 ∷ Void ∷ Int I32 ∷ Int I8 ∷ Int U32 ∷ Int U32 ∷ Void ∷ Int U32 ∷ Int I32 ∷ Int U32 ∷ Void ∷ Int I32 ∷ Int I32 ∷ Int I32 ∷ Int U8 ∷ Int I32 ∷ Int I32 ∷ Int I32 ∷ Void ∷ Int I64 ∷ Int U32 ∷ Int I32 ∷ Int I32 ∷ Int I32 ∷ Int I32 ∷ Int I32 ∷ Void ∷ Int I32 ∷ Int I32 ∷ Int I32 ∷ Int I32 ∷ Int I32 ∷ Int I32 ∷ Int I32 ∷ Void ∷ Int U64 ∷ Int I32 ∷ Int I32 ∷ Int I32 ∷ Void ∷ Int I32 ∷ [];
    binds = Fun 0 ∷ Local 0 ∷ Local 1 ∷ Local 2 ∷ Local 3 ∷ Local 4 ∷ Local 3 ∷ Local 5 ∷ Local 6 ∷ Local 5 ∷ Local 0 ∷ Service in_c.Print ∷ Local 1 ∷ Service in_c.Print ∷ Local 2 ∷ Service in_c.Print ∷ Local 4 ∷ Service in_c.Print ∷ Local 3 ∷ Service in_c.Print ∷ Local 5 ∷ Service in_c.Print ∷ Local 5 ∷ Service in_c.Print ∷ Local 5 ∷ Service in_c.Print ∷ Local 3 ∷ Service in_c.Print ∷ Local 0 ∷ Local 1 ∷ Service in_c.Print ∷ Local 5 ∷ Service in_c.Print ∷ Local 5 ∷ Local 3 ∷ Service in_c.Print ∷ Local 5 ∷ Local 4 ∷ Service in_c.Print ∷ Local 5 ∷ Service in_c.Print ∷ Local 1 ∷ Service in_c.Print ∷ Local 5 ∷ Service in_c.Print ∷ Service in_c.Print ∷ Service in_c.Print ∷ Service in_c.Print ∷ Local 6 ∷ Service in_c.Print ∷ Local 5 ∷ Local 0 ∷ Local 3 ∷ Service in_c.Print ∷ Service in_c.Print ∷ Local 5 ∷ Local 1 ∷ Service in_c.Print ∷ Local 4 ∷ Local 3 ∷ Service in_c.Print ∷ Local 5 ∷ Service in_c.Print ∷ Local 6 ∷ Local 5 ∷ Service in_c.Print ∷ [];
    declared = Int I32 ∷ Int I8 ∷ Int U8 ∷ Int I16 ∷ Int U32 ∷ Int I64 ∷ Int I32 ∷ Int U64 ∷ [];
  };
  layout = record { globals = []; functions = 0 ∷ []; texts = 1; literals = []; frames = record { size = 0; stands = Private ∷ Private ∷ Private ∷ Private ∷ Private ∷ Private ∷ Private ∷ [] } ∷ [] };
  literals = [];
}

-- int main(void){ char c = 100; int i = 5; long l = 1; unsigned char u = 250;
-- c += 100; print(c); i -= 7; print(i); i *= l + 3; print(i); i /= 3; print(i); i %= 2; print(i); l <<= 40; print(l); l >>= 38; print(l);
-- u += 10; print(u); l &= 6; print(l); l |= 9; print(l); l ^= 3; print(l); print(i++); print(++i); print(i--); print(--i); print(u--); print(u++); print(c = 300); print(i = c = 7);
-- return 0; }
abbrev pub changes : Source
changes = record {
  tree = record {
    items = item 1 1 (k.Fun (decl 1 1 (b.Int I32) 0 (codes "main") ([])) ([]) (Some (stmt 1 15 (s.Block (stmt 1 17 (s.Local (decl 1 17 (b.Int I8) 0 (codes "c") ([])) (Some (init 1 26 (i.One (expr 1 26 (e.Number 100 I32)))))) ∷ stmt 1 31 (s.Local (decl 1 31 (b.Int I32) 0 (codes "i") ([])) (Some (init 1 39 (i.One (expr 1 39 (e.Number 5 I32)))))) ∷ stmt 1 42 (s.Local (decl 1 42 (b.Int I64) 0 (codes "l") ([])) (Some (init 1 51 (i.One (expr 1 51 (e.Number 1 I32)))))) ∷ stmt 1 54 (s.Local (decl 1 54 (b.Int U8) 0 (codes "u") ([])) (Some (init 1 72 (i.One (expr 1 72 (e.Number 250 I32)))))) ∷ stmt 2 1 (s.Value (Some (expr 2 1 (e.Assign (Some a.Add) (expr 2 1 (e.Var (codes "c"))) (expr 2 6 (e.Number 100 I32)))))) ∷ stmt 2 11 (s.Value (Some (expr 2 11 (e.Call (codes "print") (expr 2 17 (e.Var (codes "c")) ∷ []))))) ∷ stmt 2 21 (s.Value (Some (expr 2 21 (e.Assign (Some a.Sub) (expr 2 21 (e.Var (codes "i"))) (expr 2 26 (e.Number 7 I32)))))) ∷ stmt 2 29 (s.Value (Some (expr 2 29 (e.Call (codes "print") (expr 2 35 (e.Var (codes "i")) ∷ []))))) ∷ stmt 2 39 (s.Value (Some (expr 2 39 (e.Assign (Some a.Mul) (expr 2 39 (e.Var (codes "i"))) (expr 2 44 (e.Binary (o.Arithmetic a.Add) (expr 2 44 (e.Var (codes "l"))) (expr 2 48 (e.Number 3 I32)))))))) ∷ stmt 2 51 (s.Value (Some (expr 2 51 (e.Call (codes "print") (expr 2 57 (e.Var (codes "i")) ∷ []))))) ∷ stmt 2 61 (s.Value (Some (expr 2 61 (e.Assign (Some a.Div) (expr 2 61 (e.Var (codes "i"))) (expr 2 66 (e.Number 3 I32)))))) ∷ stmt 2 69 (s.Value (Some (expr 2 69 (e.Call (codes "print") (expr 2 75 (e.Var (codes "i")) ∷ []))))) ∷ stmt 2 79 (s.Value (Some (expr 2 79 (e.Assign (Some a.Rem) (expr 2 79 (e.Var (codes "i"))) (expr 2 84 (e.Number 2 I32)))))) ∷ stmt 2 87 (s.Value (Some (expr 2 87 (e.Call (codes "print") (expr 2 93 (e.Var (codes "i")) ∷ []))))) ∷ stmt 2 97 (s.Value (Some (expr 2 97 (e.Assign (Some a.Shl) (expr 2 97 (e.Var (codes "l"))) (expr 2 103 (e.Number 40 I32)))))) ∷ stmt 2 107 (s.Value (Some (expr 2 107 (e.Call (codes "print") (expr 2 113 (e.Var (codes "l")) ∷ []))))) ∷ stmt 2 117 (s.Value (Some (expr 2 117 (e.Assign (Some a.Shr) (expr 2 117 (e.Var (codes "l"))) (expr 2 123 (e.Number 38 I32)))))) ∷ stmt 2 127 (s.Value (Some (expr 2 127 (e.Call (codes "print") (expr 2 133 (e.Var (codes "l")) ∷ []))))) ∷ stmt 3 1 (s.Value (Some (expr 3 1 (e.Assign (Some a.Add) (expr 3 1 (e.Var (codes "u"))) (expr 3 6 (e.Number 10 I32)))))) ∷ stmt 3 10 (s.Value (Some (expr 3 10 (e.Call (codes "print") (expr 3 16 (e.Var (codes "u")) ∷ []))))) ∷ stmt 3 20 (s.Value (Some (expr 3 20 (e.Assign (Some a.BitAnd) (expr 3 20 (e.Var (codes "l"))) (expr 3 25 (e.Number 6 I32)))))) ∷ stmt 3 28 (s.Value (Some (expr 3 28 (e.Call (codes "print") (expr 3 34 (e.Var (codes "l")) ∷ []))))) ∷ stmt 3 38 (s.Value (Some (expr 3 38 (e.Assign (Some a.BitOr) (expr 3 38 (e.Var (codes "l"))) (expr 3 43 (e.Number 9 I32)))))) ∷ stmt 3 46 (s.Value (Some (expr 3 46 (e.Call (codes "print") (expr 3 52 (e.Var (codes "l")) ∷ []))))) ∷ stmt 3 56 (s.Value (Some (expr 3 56 (e.Assign (Some a.BitXor) (expr 3 56 (e.Var (codes "l"))) (expr 3 61 (e.Number 3 I32)))))) ∷ stmt 3 64 (s.Value (Some (expr 3 64 (e.Call (codes "print") (expr 3 70 (e.Var (codes "l")) ∷ []))))) ∷ stmt 3 74 (s.Value (Some (expr 3 74 (e.Call (codes "print") (expr 3 80 (e.StepBy true false (expr 3 80 (e.Var (codes "i")))) ∷ []))))) ∷ stmt 3 86 (s.Value (Some (expr 3 86 (e.Call (codes "print") (expr 3 92 (e.StepBy true true (expr 3 94 (e.Var (codes "i")))) ∷ []))))) ∷ stmt 3 98 (s.Value (Some (expr 3 98 (e.Call (codes "print") (expr 3 104 (e.StepBy false false (expr 3 104 (e.Var (codes "i")))) ∷ []))))) ∷ stmt 3 110 (s.Value (Some (expr 3 110 (e.Call (codes "print") (expr 3 116 (e.StepBy false true (expr 3 118 (e.Var (codes "i")))) ∷ []))))) ∷ stmt 3 122 (s.Value (Some (expr 3 122 (e.Call (codes "print") (expr 3 128 (e.StepBy false false (expr 3 128 (e.Var (codes "u")))) ∷ []))))) ∷ stmt 3 134 (s.Value (Some (expr 3 134 (e.Call (codes "print") (expr 3 140 (e.StepBy true false (expr 3 140 (e.Var (codes "u")))) ∷ []))))) ∷ stmt 3 146 (s.Value (Some (expr 3 146 (e.Call (codes "print") (expr 3 152 (e.Assign None (expr 3 152 (e.Var (codes "c"))) (expr 3 156 (e.Number 300 I32))) ∷ []))))) ∷ stmt 3 162 (s.Value (Some (expr 3 162 (e.Call (codes "print") (expr 3 168 (e.Assign None (expr 3 168 (e.Var (codes "i"))) (expr 3 172 (e.Assign None (expr 3 172 (e.Var (codes "c"))) (expr 3 176 (e.Number 7 I32))))) ∷ []))))) ∷ stmt 4 1 (s.Return (Some (expr 4 8 (e.Number 0 I32)))) ∷ [])))))
        ∷ [];
  };
  meanings = record {
    kinds = Int I32 ∷ Int I32 ∷ Int I32 ∷ Int I32 ∷ Int I8 ∷ Int I32 ∷ Int I8 ∷ Int I8 ∷ Void ∷ Int I32 ∷ Int I32 ∷ Int I32 ∷ Int I32 ∷ Void ∷ Int I32 ∷ Int I64 ∷ Int I32 ∷ Int I64 ∷ Int I32 ∷ Int I32 ∷ Void ∷ Int I32 ∷ Int I32 ∷ Int I32 ∷ Int I32 ∷ Void ∷ Int I32 ∷ Int I32 ∷ Int I32 ∷ Int I32 ∷ Void ∷ Int I64 ∷ Int I32 ∷ Int I64 ∷ Int I64 ∷ Void ∷ Int I64 ∷ Int I32 ∷ Int I64 ∷ Int I64 ∷ Void ∷ Int U8 ∷ Int I32 ∷ Int U8 ∷ Int U8 ∷ Void ∷ Int I64 ∷ Int I32 ∷ Int I64 ∷ Int I64 ∷ Void ∷ Int I64 ∷ Int I32 ∷ Int I64 ∷ Int I64 ∷ Void ∷ Int I64 ∷ Int I32 ∷ Int I64 ∷ Int I64 ∷ Void ∷ Int I32 ∷ Int I32 ∷ Void ∷ Int I32 ∷ Int I32 ∷ Void ∷ Int I32 ∷ Int I32 ∷ Void ∷ Int I32 ∷ Int I32 ∷ Void ∷ Int U8 ∷ Int U8 ∷ Void ∷ Int U8 ∷ Int U8 ∷ Void ∷ Int I8 ∷ Int I32 ∷ Int I8 ∷ Void ∷ Int I32 ∷ Int I8 ∷ Int I32 ∷ Int I8 ∷ Int I32 ∷ Void ∷ Int I32 ∷ [];
    binds = Fun 0 ∷ Local 0 ∷ Local 1 ∷ Local 2 ∷ Local 3 ∷ Local 0 ∷ Local 0 ∷ Service in_c.Print ∷ Local 1 ∷ Local 1 ∷ Service in_c.Print ∷ Local 1 ∷ Local 2 ∷ Local 1 ∷ Service in_c.Print ∷ Local 1 ∷ Local 1 ∷ Service in_c.Print ∷ Local 1 ∷ Local 1 ∷ Service in_c.Print ∷ Local 2 ∷ Local 2 ∷ Service in_c.Print ∷ Local 2 ∷ Local 2 ∷ Service in_c.Print ∷ Local 3 ∷ Local 3 ∷ Service in_c.Print ∷ Local 2 ∷ Local 2 ∷ Service in_c.Print ∷ Local 2 ∷ Local 2 ∷ Service in_c.Print ∷ Local 2 ∷ Local 2 ∷ Service in_c.Print ∷ Local 1 ∷ Service in_c.Print ∷ Local 1 ∷ Service in_c.Print ∷ Local 1 ∷ Service in_c.Print ∷ Local 1 ∷ Service in_c.Print ∷ Local 3 ∷ Service in_c.Print ∷ Local 3 ∷ Service in_c.Print ∷ Local 0 ∷ Service in_c.Print ∷ Local 1 ∷ Local 0 ∷ Service in_c.Print ∷ [];
    declared = Int I32 ∷ Int I8 ∷ Int I32 ∷ Int I64 ∷ Int U8 ∷ [];
  };
  layout = record { globals = []; functions = 0 ∷ []; texts = 1; literals = []; frames = record { size = 0; stands = Private ∷ Private ∷ Private ∷ Private ∷ [] } ∷ [] };
  literals = [];
}

-- struct N { char k; long v; struct N *next; short t[3]; }; struct N x; int a[2][3]; long *null;
-- int main(void){ struct N *p = &x; int *q; int *r; char **pp; char *w; int k = 3;
-- p->v = 7; (*p).k = 3; x.next = p; x.next->t[2] = 9; print(p->next->next->v + x.k + p->t[2]); print(sizeof x); print(sizeof(struct N *)); print(sizeof a[0]); print(sizeof(p->t));
-- a[1][2] = 5; q = a[1]; print(q[2]); print(*(q + 2)); print(*(2 + q)); r = &a[0][1]; print(q - r); print(r < q); print(r == q - 2); print(q != 0); print(0 == null); print(!null);
-- r += 2; print(r == a[1]); r -= 1; r++; print(*++r + *r--); print((r + 2)[0]); *r = 4; *r += 6; print(r[0]++); print(--*r); print(&a[1] - &a[0]);
-- w = "ab"; pp = &w; print((*pp)[1]); print(**pp); print(*w++); print(*w); print(sizeof "abc"); w = k ? w : 0; print(w[1]); w = 0; if (w) print(1); else print(2); print(w || k); print((long)(w + 5));
-- return p->t[2]; }
abbrev pub points : Source
points = record {
  tree = record {
    items = item 1 1 (k.Struct (codes "N") (decl 1 12 (b.Int I8) 0 (codes "k") ([]) ∷ decl 1 20 (b.Int I64) 0 (codes "v") ([]) ∷ decl 1 28 (b.Struct (codes "N")) 1 (codes "next") ([]) ∷ decl 1 44 (b.Int I16) 0 (codes "t") (expr 1 52 (e.Number 3 I32) ∷ []) ∷ []))
        ∷ item 1 59 (k.Var false (decl 1 59 (b.Struct (codes "N")) 0 (codes "x") ([])) None)
        ∷ item 1 71 (k.Var false (decl 1 71 (b.Int I32) 0 (codes "a") (expr 1 77 (e.Number 2 I32) ∷ expr 1 80 (e.Number 3 I32) ∷ [])) None)
        ∷ item 1 84 (k.Var false (decl 1 84 (b.Int I64) 1 (codes "null") ([])) None)
        ∷ item 2 1 (k.Fun (decl 2 1 (b.Int I32) 0 (codes "main") ([])) ([]) (Some (stmt 2 15 (s.Block (stmt 2 17 (s.Local (decl 2 17 (b.Struct (codes "N")) 1 (codes "p") ([])) (Some (init 2 31 (i.One (expr 2 31 (e.Unary u.AddressOf (expr 2 32 (e.Var (codes "x"))))))))) ∷ stmt 2 35 (s.Local (decl 2 35 (b.Int I32) 1 (codes "q") ([])) None) ∷ stmt 2 43 (s.Local (decl 2 43 (b.Int I32) 1 (codes "r") ([])) None) ∷ stmt 2 51 (s.Local (decl 2 51 (b.Int I8) 2 (codes "pp") ([])) None) ∷ stmt 2 62 (s.Local (decl 2 62 (b.Int I8) 1 (codes "w") ([])) None) ∷ stmt 2 71 (s.Local (decl 2 71 (b.Int I32) 0 (codes "k") ([])) (Some (init 2 79 (i.One (expr 2 79 (e.Number 3 I32)))))) ∷ stmt 3 1 (s.Value (Some (expr 3 1 (e.Assign None (expr 3 1 (e.Arrow (expr 3 1 (e.Var (codes "p"))) (codes "v"))) (expr 3 8 (e.Number 7 I32)))))) ∷ stmt 3 11 (s.Value (Some (expr 3 11 (e.Assign None (expr 3 11 (e.Member (expr 3 12 (e.Unary u.Deref (expr 3 13 (e.Var (codes "p"))))) (codes "k"))) (expr 3 20 (e.Number 3 I32)))))) ∷ stmt 3 23 (s.Value (Some (expr 3 23 (e.Assign None (expr 3 23 (e.Member (expr 3 23 (e.Var (codes "x"))) (codes "next"))) (expr 3 32 (e.Var (codes "p"))))))) ∷ stmt 3 35 (s.Value (Some (expr 3 35 (e.Assign None (expr 3 35 (e.Index (expr 3 35 (e.Arrow (expr 3 35 (e.Member (expr 3 35 (e.Var (codes "x"))) (codes "next"))) (codes "t"))) (expr 3 45 (e.Number 2 I32)))) (expr 3 50 (e.Number 9 I32)))))) ∷ stmt 3 53 (s.Value (Some (expr 3 53 (e.Call (codes "print") (expr 3 59 (e.Binary (o.Arithmetic a.Add) (expr 3 59 (e.Binary (o.Arithmetic a.Add) (expr 3 59 (e.Arrow (expr 3 59 (e.Arrow (expr 3 59 (e.Arrow (expr 3 59 (e.Var (codes "p"))) (codes "next"))) (codes "next"))) (codes "v"))) (expr 3 78 (e.Member (expr 3 78 (e.Var (codes "x"))) (codes "k"))))) (expr 3 84 (e.Index (expr 3 84 (e.Arrow (expr 3 84 (e.Var (codes "p"))) (codes "t"))) (expr 3 89 (e.Number 2 I32))))) ∷ []))))) ∷ stmt 3 94 (s.Value (Some (expr 3 94 (e.Call (codes "print") (expr 3 100 (e.SizeOfValue (expr 3 107 (e.Var (codes "x")))) ∷ []))))) ∷ stmt 3 111 (s.Value (Some (expr 3 111 (e.Call (codes "print") (expr 3 117 (e.SizeOfKind (b.Struct (codes "N")) 1) ∷ []))))) ∷ stmt 3 138 (s.Value (Some (expr 3 138 (e.Call (codes "print") (expr 3 144 (e.SizeOfValue (expr 3 151 (e.Index (expr 3 151 (e.Var (codes "a"))) (expr 3 153 (e.Number 0 I32))))) ∷ []))))) ∷ stmt 3 158 (s.Value (Some (expr 3 158 (e.Call (codes "print") (expr 3 164 (e.SizeOfValue (expr 3 171 (e.Arrow (expr 3 171 (e.Var (codes "p"))) (codes "t")))) ∷ []))))) ∷ stmt 4 1 (s.Value (Some (expr 4 1 (e.Assign None (expr 4 1 (e.Index (expr 4 1 (e.Index (expr 4 1 (e.Var (codes "a"))) (expr 4 3 (e.Number 1 I32)))) (expr 4 6 (e.Number 2 I32)))) (expr 4 11 (e.Number 5 I32)))))) ∷ stmt 4 14 (s.Value (Some (expr 4 14 (e.Assign None (expr 4 14 (e.Var (codes "q"))) (expr 4 18 (e.Index (expr 4 18 (e.Var (codes "a"))) (expr 4 20 (e.Number 1 I32)))))))) ∷ stmt 4 24 (s.Value (Some (expr 4 24 (e.Call (codes "print") (expr 4 30 (e.Index (expr 4 30 (e.Var (codes "q"))) (expr 4 32 (e.Number 2 I32))) ∷ []))))) ∷ stmt 4 37 (s.Value (Some (expr 4 37 (e.Call (codes "print") (expr 4 43 (e.Unary u.Deref (expr 4 45 (e.Binary (o.Arithmetic a.Add) (expr 4 45 (e.Var (codes "q"))) (expr 4 49 (e.Number 2 I32))))) ∷ []))))) ∷ stmt 4 54 (s.Value (Some (expr 4 54 (e.Call (codes "print") (expr 4 60 (e.Unary u.Deref (expr 4 62 (e.Binary (o.Arithmetic a.Add) (expr 4 62 (e.Number 2 I32)) (expr 4 66 (e.Var (codes "q")))))) ∷ []))))) ∷ stmt 4 71 (s.Value (Some (expr 4 71 (e.Assign None (expr 4 71 (e.Var (codes "r"))) (expr 4 75 (e.Unary u.AddressOf (expr 4 76 (e.Index (expr 4 76 (e.Index (expr 4 76 (e.Var (codes "a"))) (expr 4 78 (e.Number 0 I32)))) (expr 4 81 (e.Number 1 I32)))))))))) ∷ stmt 4 85 (s.Value (Some (expr 4 85 (e.Call (codes "print") (expr 4 91 (e.Binary (o.Arithmetic a.Sub) (expr 4 91 (e.Var (codes "q"))) (expr 4 95 (e.Var (codes "r")))) ∷ []))))) ∷ stmt 4 99 (s.Value (Some (expr 4 99 (e.Call (codes "print") (expr 4 105 (e.Binary (o.Comparison c.Less) (expr 4 105 (e.Var (codes "r"))) (expr 4 109 (e.Var (codes "q")))) ∷ []))))) ∷ stmt 4 113 (s.Value (Some (expr 4 113 (e.Call (codes "print") (expr 4 119 (e.Binary (o.Comparison c.Equal) (expr 4 119 (e.Var (codes "r"))) (expr 4 124 (e.Binary (o.Arithmetic a.Sub) (expr 4 124 (e.Var (codes "q"))) (expr 4 128 (e.Number 2 I32))))) ∷ []))))) ∷ stmt 4 132 (s.Value (Some (expr 4 132 (e.Call (codes "print") (expr 4 138 (e.Binary (o.Comparison c.NotEqual) (expr 4 138 (e.Var (codes "q"))) (expr 4 143 (e.Number 0 I32))) ∷ []))))) ∷ stmt 4 147 (s.Value (Some (expr 4 147 (e.Call (codes "print") (expr 4 153 (e.Binary (o.Comparison c.Equal) (expr 4 153 (e.Number 0 I32)) (expr 4 158 (e.Var (codes "null")))) ∷ []))))) ∷ stmt 4 165 (s.Value (Some (expr 4 165 (e.Call (codes "print") (expr 4 171 (e.Unary u.Not (expr 4 172 (e.Var (codes "null")))) ∷ []))))) ∷ stmt 5 1 (s.Value (Some (expr 5 1 (e.Assign (Some a.Add) (expr 5 1 (e.Var (codes "r"))) (expr 5 6 (e.Number 2 I32)))))) ∷ stmt 5 9 (s.Value (Some (expr 5 9 (e.Call (codes "print") (expr 5 15 (e.Binary (o.Comparison c.Equal) (expr 5 15 (e.Var (codes "r"))) (expr 5 20 (e.Index (expr 5 20 (e.Var (codes "a"))) (expr 5 22 (e.Number 1 I32))))) ∷ []))))) ∷ stmt 5 27 (s.Value (Some (expr 5 27 (e.Assign (Some a.Sub) (expr 5 27 (e.Var (codes "r"))) (expr 5 32 (e.Number 1 I32)))))) ∷ stmt 5 35 (s.Value (Some (expr 5 35 (e.StepBy true false (expr 5 35 (e.Var (codes "r"))))))) ∷ stmt 5 40 (s.Value (Some (expr 5 40 (e.Call (codes "print") (expr 5 46 (e.Binary (o.Arithmetic a.Add) (expr 5 46 (e.Unary u.Deref (expr 5 47 (e.StepBy true true (expr 5 49 (e.Var (codes "r"))))))) (expr 5 53 (e.Unary u.Deref (expr 5 54 (e.StepBy false false (expr 5 54 (e.Var (codes "r")))))))) ∷ []))))) ∷ stmt 5 60 (s.Value (Some (expr 5 60 (e.Call (codes "print") (expr 5 66 (e.Index (expr 5 67 (e.Binary (o.Arithmetic a.Add) (expr 5 67 (e.Var (codes "r"))) (expr 5 71 (e.Number 2 I32)))) (expr 5 74 (e.Number 0 I32))) ∷ []))))) ∷ stmt 5 79 (s.Value (Some (expr 5 79 (e.Assign None (expr 5 79 (e.Unary u.Deref (expr 5 80 (e.Var (codes "r"))))) (expr 5 84 (e.Number 4 I32)))))) ∷ stmt 5 87 (s.Value (Some (expr 5 87 (e.Assign (Some a.Add) (expr 5 87 (e.Unary u.Deref (expr 5 88 (e.Var (codes "r"))))) (expr 5 93 (e.Number 6 I32)))))) ∷ stmt 5 96 (s.Value (Some (expr 5 96 (e.Call (codes "print") (expr 5 102 (e.StepBy true false (expr 5 102 (e.Index (expr 5 102 (e.Var (codes "r"))) (expr 5 104 (e.Number 0 I32))))) ∷ []))))) ∷ stmt 5 111 (s.Value (Some (expr 5 111 (e.Call (codes "print") (expr 5 117 (e.StepBy false true (expr 5 119 (e.Unary u.Deref (expr 5 120 (e.Var (codes "r")))))) ∷ []))))) ∷ stmt 5 124 (s.Value (Some (expr 5 124 (e.Call (codes "print") (expr 5 130 (e.Binary (o.Arithmetic a.Sub) (expr 5 130 (e.Unary u.AddressOf (expr 5 131 (e.Index (expr 5 131 (e.Var (codes "a"))) (expr 5 133 (e.Number 1 I32)))))) (expr 5 138 (e.Unary u.AddressOf (expr 5 139 (e.Index (expr 5 139 (e.Var (codes "a"))) (expr 5 141 (e.Number 0 I32))))))) ∷ []))))) ∷ stmt 6 1 (s.Value (Some (expr 6 1 (e.Assign None (expr 6 1 (e.Var (codes "w"))) (expr 6 5 (e.Text (codes "ab"))))))) ∷ stmt 6 11 (s.Value (Some (expr 6 11 (e.Assign None (expr 6 11 (e.Var (codes "pp"))) (expr 6 16 (e.Unary u.AddressOf (expr 6 17 (e.Var (codes "w"))))))))) ∷ stmt 6 20 (s.Value (Some (expr 6 20 (e.Call (codes "print") (expr 6 26 (e.Index (expr 6 27 (e.Unary u.Deref (expr 6 28 (e.Var (codes "pp"))))) (expr 6 32 (e.Number 1 I32))) ∷ []))))) ∷ stmt 6 37 (s.Value (Some (expr 6 37 (e.Call (codes "print") (expr 6 43 (e.Unary u.Deref (expr 6 44 (e.Unary u.Deref (expr 6 45 (e.Var (codes "pp")))))) ∷ []))))) ∷ stmt 6 50 (s.Value (Some (expr 6 50 (e.Call (codes "print") (expr 6 56 (e.Unary u.Deref (expr 6 57 (e.StepBy true false (expr 6 57 (e.Var (codes "w")))))) ∷ []))))) ∷ stmt 6 63 (s.Value (Some (expr 6 63 (e.Call (codes "print") (expr 6 69 (e.Unary u.Deref (expr 6 70 (e.Var (codes "w")))) ∷ []))))) ∷ stmt 6 74 (s.Value (Some (expr 6 74 (e.Call (codes "print") (expr 6 80 (e.SizeOfValue (expr 6 87 (e.Text (codes "abc")))) ∷ []))))) ∷ stmt 6 95 (s.Value (Some (expr 6 95 (e.Assign None (expr 6 95 (e.Var (codes "w"))) (expr 6 99 (e.Cond (expr 6 99 (e.Var (codes "k"))) (expr 6 103 (e.Var (codes "w"))) (expr 6 107 (e.Number 0 I32)))))))) ∷ stmt 6 110 (s.Value (Some (expr 6 110 (e.Call (codes "print") (expr 6 116 (e.Index (expr 6 116 (e.Var (codes "w"))) (expr 6 118 (e.Number 1 I32))) ∷ []))))) ∷ stmt 6 123 (s.Value (Some (expr 6 123 (e.Assign None (expr 6 123 (e.Var (codes "w"))) (expr 6 127 (e.Number 0 I32)))))) ∷ stmt 6 130 (s.If (expr 6 134 (e.Var (codes "w"))) (stmt 6 137 (s.Value (Some (expr 6 137 (e.Call (codes "print") (expr 6 143 (e.Number 1 I32) ∷ [])))))) (Some (stmt 6 152 (s.Value (Some (expr 6 152 (e.Call (codes "print") (expr 6 158 (e.Number 2 I32) ∷ [])))))))) ∷ stmt 6 162 (s.Value (Some (expr 6 162 (e.Call (codes "print") (expr 6 168 (e.Binary (o.Logical l.Or) (expr 6 168 (e.Var (codes "w"))) (expr 6 173 (e.Var (codes "k")))) ∷ []))))) ∷ stmt 6 177 (s.Value (Some (expr 6 177 (e.Call (codes "print") (expr 6 183 (e.Cast (b.Int I64) 0 (expr 6 190 (e.Binary (o.Arithmetic a.Add) (expr 6 190 (e.Var (codes "w"))) (expr 6 194 (e.Number 5 I32))))) ∷ []))))) ∷ stmt 7 1 (s.Return (Some (expr 7 8 (e.Index (expr 7 8 (e.Arrow (expr 7 8 (e.Var (codes "p"))) (codes "t"))) (expr 7 13 (e.Number 2 I32)))))) ∷ [])))))
        ∷ [];
  };
  meanings = record {
    kinds = Int I32 ∷ Int I32 ∷ Int I32 ∷ Struct 0 ∷ Pointer (Struct 0) ∷ Int I32 ∷ Pointer (Struct 0) ∷ Int I64 ∷ Int I32 ∷ Int I64 ∷ Pointer (Struct 0) ∷ Struct 0 ∷ Int I8 ∷ Int I32 ∷ Int I8 ∷ Struct 0 ∷ Pointer (Struct 0) ∷ Pointer (Struct 0) ∷ Pointer (Struct 0) ∷ Struct 0 ∷ Pointer (Struct 0) ∷ Array (Int I16) 3 ∷ Int I32 ∷ Int I16 ∷ Int I32 ∷ Int I16 ∷ Pointer (Struct 0) ∷ Pointer (Struct 0) ∷ Pointer (Struct 0) ∷ Int I64 ∷ Struct 0 ∷ Int I8 ∷ Int I64 ∷ Pointer (Struct 0) ∷ Array (Int I16) 3 ∷ Int I32 ∷ Int I16 ∷ Int I64 ∷ Void ∷ Struct 0 ∷ Int U64 ∷ Void ∷ Int U64 ∷ Void ∷ Array (Array (Int I32) 3) 2 ∷ Int I32 ∷ Array (Int I32) 3 ∷ Int U64 ∷ Void ∷ Pointer (Struct 0) ∷ Array (Int I16) 3 ∷ Int U64 ∷ Void ∷ Array (Array (Int I32) 3) 2 ∷ Int I32 ∷ Array (Int I32) 3 ∷ Int I32 ∷ Int I32 ∷ Int I32 ∷ Int I32 ∷ Pointer (Int I32) ∷ Array (Array (Int I32) 3) 2 ∷ Int I32 ∷ Array (Int I32) 3 ∷ Pointer (Int I32) ∷ Pointer (Int I32) ∷ Int I32 ∷ Int I32 ∷ Void ∷ Pointer (Int I32) ∷ Int I32 ∷ Pointer (Int I32) ∷ Int I32 ∷ Void ∷ Int I32 ∷ Pointer (Int I32) ∷ Pointer (Int I32) ∷ Int I32 ∷ Void ∷ Pointer (Int I32) ∷ Array (Array (Int I32) 3) 2 ∷ Int I32 ∷ Array (Int I32) 3 ∷ Int I32 ∷ Int I32 ∷ Pointer (Int I32) ∷ Pointer (Int I32) ∷ Pointer (Int I32) ∷ Pointer (Int I32) ∷ Int I64 ∷ Void ∷ Pointer (Int I32) ∷ Pointer (Int I32) ∷ Int I32 ∷ Void ∷ Pointer (Int I32) ∷ Pointer (Int I32) ∷ Int I32 ∷ Pointer (Int I32) ∷ Int I32 ∷ Void ∷ Pointer (Int I32) ∷ Int I32 ∷ Int I32 ∷ Void ∷ Int I32 ∷ Pointer (Int I64) ∷ Int I32 ∷ Void ∷ Pointer (Int I64) ∷ Int I32 ∷ Void ∷ Pointer (Int I32) ∷ Int I32 ∷ Pointer (Int I32) ∷ Pointer (Int I32) ∷ Array (Array (Int I32) 3) 2 ∷ Int I32 ∷ Array (Int I32) 3 ∷ Int I32 ∷ Void ∷ Pointer (Int I32) ∷ Int I32 ∷ Pointer (Int I32) ∷ Pointer (Int I32) ∷ Pointer (Int I32) ∷ Pointer (Int I32) ∷ Pointer (Int I32) ∷ Int I32 ∷ Pointer (Int I32) ∷ Pointer (Int I32) ∷ Int I32 ∷ Int I32 ∷ Void ∷ Pointer (Int I32) ∷ Int I32 ∷ Pointer (Int I32) ∷ Int I32 ∷ Int I32 ∷ Void ∷ Pointer (Int I32) ∷ Int I32 ∷ Int I32 ∷ Int I32 ∷ Pointer (Int I32) ∷ Int I32 ∷ Int I32 ∷ Int I32 ∷ Pointer (Int I32) ∷ Int I32 ∷ Int I32 ∷ Int I32 ∷ Void ∷ Pointer (Int I32) ∷ Int I32 ∷ Int I32 ∷ Void ∷ Array (Array (Int I32) 3) 2 ∷ Int I32 ∷ Array (Int I32) 3 ∷ Pointer (Array (Int I32) 3) ∷ Array (Array (Int I32) 3) 2 ∷ Int I32 ∷ Array (Int I32) 3 ∷ Pointer (Array (Int I32) 3) ∷ Int I64 ∷ Void ∷ Pointer (Int I8) ∷ Array (Int I8) 3 ∷ Pointer (Int I8) ∷ Pointer (Pointer (Int I8)) ∷ Pointer (Int I8) ∷ Pointer (Pointer (Int I8)) ∷ Pointer (Pointer (Int I8)) ∷ Pointer (Pointer (Int I8)) ∷ Pointer (Int I8) ∷ Int I32 ∷ Int I8 ∷ Void ∷ Pointer (Pointer (Int I8)) ∷ Pointer (Int I8) ∷ Int I8 ∷ Void ∷ Pointer (Int I8) ∷ Pointer (Int I8) ∷ Int I8 ∷ Void ∷ Pointer (Int I8) ∷ Int I8 ∷ Void ∷ Array (Int I8) 4 ∷ Int U64 ∷ Void ∷ Pointer (Int I8) ∷ Int I32 ∷ Pointer (Int I8) ∷ Int I32 ∷ Pointer (Int I8) ∷ Pointer (Int I8) ∷ Pointer (Int I8) ∷ Int I32 ∷ Int I8 ∷ Void ∷ Pointer (Int I8) ∷ Int I32 ∷ Pointer (Int I8) ∷ Pointer (Int I8) ∷ Int I32 ∷ Void ∷ Int I32 ∷ Void ∷ Pointer (Int I8) ∷ Int I32 ∷ Int I32 ∷ Void ∷ Pointer (Int I8) ∷ Int I32 ∷ Pointer (Int I8) ∷ Int I64 ∷ Void ∷ Pointer (Struct 0) ∷ Array (Int I16) 3 ∷ Int I32 ∷ Int I16 ∷ [];
    binds = Global 0 ∷ Global 1 ∷ Global 2 ∷ Fun 0 ∷ Local 0 ∷ Global 0 ∷ Local 1 ∷ Local 2 ∷ Local 3 ∷ Local 4 ∷ Local 5 ∷ Local 0 ∷ Local 0 ∷ Global 0 ∷ Local 0 ∷ Global 0 ∷ Local 0 ∷ Global 0 ∷ Local 0 ∷ Service in_c.Print ∷ Global 0 ∷ Service in_c.Print ∷ Service in_c.Print ∷ Global 1 ∷ Service in_c.Print ∷ Local 0 ∷ Service in_c.Print ∷ Global 1 ∷ Local 1 ∷ Global 1 ∷ Local 1 ∷ Service in_c.Print ∷ Local 1 ∷ Service in_c.Print ∷ Local 1 ∷ Service in_c.Print ∷ Local 2 ∷ Global 1 ∷ Local 1 ∷ Local 2 ∷ Service in_c.Print ∷ Local 2 ∷ Local 1 ∷ Service in_c.Print ∷ Local 2 ∷ Local 1 ∷ Service in_c.Print ∷ Local 1 ∷ Service in_c.Print ∷ Global 2 ∷ Service in_c.Print ∷ Global 2 ∷ Service in_c.Print ∷ Local 2 ∷ Local 2 ∷ Global 1 ∷ Service in_c.Print ∷ Local 2 ∷ Local 2 ∷ Local 2 ∷ Local 2 ∷ Service in_c.Print ∷ Local 2 ∷ Service in_c.Print ∷ Local 2 ∷ Local 2 ∷ Local 2 ∷ Service in_c.Print ∷ Local 2 ∷ Service in_c.Print ∷ Global 1 ∷ Global 1 ∷ Service in_c.Print ∷ Local 4 ∷ Local 3 ∷ Local 4 ∷ Local 3 ∷ Service in_c.Print ∷ Local 3 ∷ Service in_c.Print ∷ Local 4 ∷ Service in_c.Print ∷ Local 4 ∷ Service in_c.Print ∷ Service in_c.Print ∷ Local 4 ∷ Local 5 ∷ Local 4 ∷ Local 4 ∷ Service in_c.Print ∷ Local 4 ∷ Local 4 ∷ Service in_c.Print ∷ Service in_c.Print ∷ Local 4 ∷ Local 5 ∷ Service in_c.Print ∷ Local 4 ∷ Service in_c.Print ∷ Local 0 ∷ [];
    declared = Int I8 ∷ Int I64 ∷ Pointer (Struct 0) ∷ Array (Int I16) 3 ∷ Struct 0 ∷ Array (Array (Int I32) 3) 2 ∷ Pointer (Int I64) ∷ Int I32 ∷ Pointer (Struct 0) ∷ Pointer (Int I32) ∷ Pointer (Int I32) ∷ Pointer (Pointer (Int I8)) ∷ Pointer (Int I8) ∷ Int I32 ∷ [];
  };
  layout = record { globals = 0 ∷ 1 ∷ 2 ∷ []; functions = 3 ∷ []; texts = 4; literals = 0 ∷ []; frames = record { size = 16; stands = Private ∷ Private ∷ Private ∷ Private ∷ Frame 0 ∷ Private ∷ [] } ∷ [] };
  literals = 97 ∷ 98 ∷ 0 ∷ [];
}

-- struct Q { int a; char n[4]; struct Q *p; short s[2]; };
-- int main(void){ int i = 2; int a[4] = { i, i + 1 }; char t[3] = "abc"; char u[6] = "ab"; char m[2][3] = { "x", { 1, 2, 3 } }; struct Q q = { 5, "hey", &q, { i } }; struct Q r = q; struct Q k[2] = { { 1 } }; int *z = &i; long *g[2] = { 0 };
-- print(a[0] + a[1] * 10 + a[2] + a[3]); print(t[2]); print(u[1]); print(u[5]); print(m[0][0]); print(m[0][2]); print(m[1][2]); print(r.a + r.n[2] + r.s[0] + r.s[1]); print(r.p == &q); print(k[1].a + k[0].a); print(*z); print(g[0] == g[1]);
-- k[1] = r; print(k[1].n[0]); print(sizeof k); for (k[0] = k[1]; i < 4; k[1] = k[0]) i++; print(k[1].p->a); k[0]; q; { int i = 9; print(i); } print(i);
-- return 0; }
abbrev pub fills : Source
fills = record {
  tree = record {
    items = item 1 1 (k.Struct (codes "Q") (decl 1 12 (b.Int I32) 0 (codes "a") ([]) ∷ decl 1 19 (b.Int I8) 0 (codes "n") (expr 1 26 (e.Number 4 I32) ∷ []) ∷ decl 1 30 (b.Struct (codes "Q")) 1 (codes "p") ([]) ∷ decl 1 43 (b.Int I16) 0 (codes "s") (expr 1 51 (e.Number 2 I32) ∷ []) ∷ []))
        ∷ item 2 1 (k.Fun (decl 2 1 (b.Int I32) 0 (codes "main") ([])) ([]) (Some (stmt 2 15 (s.Block (stmt 2 17 (s.Local (decl 2 17 (b.Int I32) 0 (codes "i") ([])) (Some (init 2 25 (i.One (expr 2 25 (e.Number 2 I32)))))) ∷ stmt 2 28 (s.Local (decl 2 28 (b.Int I32) 0 (codes "a") (expr 2 34 (e.Number 4 I32) ∷ [])) (Some (init 2 39 (i.Many (init 2 41 (i.One (expr 2 41 (e.Var (codes "i")))) ∷ init 2 44 (i.One (expr 2 44 (e.Binary (o.Arithmetic a.Add) (expr 2 44 (e.Var (codes "i"))) (expr 2 48 (e.Number 1 I32))))) ∷ []))))) ∷ stmt 2 53 (s.Local (decl 2 53 (b.Int I8) 0 (codes "t") (expr 2 60 (e.Number 3 I32) ∷ [])) (Some (init 2 65 (i.One (expr 2 65 (e.Text (codes "abc"))))))) ∷ stmt 2 72 (s.Local (decl 2 72 (b.Int I8) 0 (codes "u") (expr 2 79 (e.Number 6 I32) ∷ [])) (Some (init 2 84 (i.One (expr 2 84 (e.Text (codes "ab"))))))) ∷ stmt 2 90 (s.Local (decl 2 90 (b.Int I8) 0 (codes "m") (expr 2 97 (e.Number 2 I32) ∷ expr 2 100 (e.Number 3 I32) ∷ [])) (Some (init 2 105 (i.Many (init 2 107 (i.One (expr 2 107 (e.Text (codes "x")))) ∷ init 2 112 (i.Many (init 2 114 (i.One (expr 2 114 (e.Number 1 I32))) ∷ init 2 117 (i.One (expr 2 117 (e.Number 2 I32))) ∷ init 2 120 (i.One (expr 2 120 (e.Number 3 I32))) ∷ [])) ∷ []))))) ∷ stmt 2 127 (s.Local (decl 2 127 (b.Struct (codes "Q")) 0 (codes "q") ([])) (Some (init 2 140 (i.Many (init 2 142 (i.One (expr 2 142 (e.Number 5 I32))) ∷ init 2 145 (i.One (expr 2 145 (e.Text (codes "hey")))) ∷ init 2 152 (i.One (expr 2 152 (e.Unary u.AddressOf (expr 2 153 (e.Var (codes "q")))))) ∷ init 2 156 (i.Many (init 2 158 (i.One (expr 2 158 (e.Var (codes "i")))) ∷ [])) ∷ []))))) ∷ stmt 2 165 (s.Local (decl 2 165 (b.Struct (codes "Q")) 0 (codes "r") ([])) (Some (init 2 178 (i.One (expr 2 178 (e.Var (codes "q"))))))) ∷ stmt 2 181 (s.Local (decl 2 181 (b.Struct (codes "Q")) 0 (codes "k") (expr 2 192 (e.Number 2 I32) ∷ [])) (Some (init 2 197 (i.Many (init 2 199 (i.Many (init 2 201 (i.One (expr 2 201 (e.Number 1 I32))) ∷ [])) ∷ []))))) ∷ stmt 2 208 (s.Local (decl 2 208 (b.Int I32) 1 (codes "z") ([])) (Some (init 2 217 (i.One (expr 2 217 (e.Unary u.AddressOf (expr 2 218 (e.Var (codes "i"))))))))) ∷ stmt 2 221 (s.Local (decl 2 221 (b.Int I64) 1 (codes "g") (expr 2 229 (e.Number 2 I32) ∷ [])) (Some (init 2 234 (i.Many (init 2 236 (i.One (expr 2 236 (e.Number 0 I32))) ∷ []))))) ∷ stmt 3 1 (s.Value (Some (expr 3 1 (e.Call (codes "print") (expr 3 7 (e.Binary (o.Arithmetic a.Add) (expr 3 7 (e.Binary (o.Arithmetic a.Add) (expr 3 7 (e.Binary (o.Arithmetic a.Add) (expr 3 7 (e.Index (expr 3 7 (e.Var (codes "a"))) (expr 3 9 (e.Number 0 I32)))) (expr 3 14 (e.Binary (o.Arithmetic a.Mul) (expr 3 14 (e.Index (expr 3 14 (e.Var (codes "a"))) (expr 3 16 (e.Number 1 I32)))) (expr 3 21 (e.Number 10 I32)))))) (expr 3 26 (e.Index (expr 3 26 (e.Var (codes "a"))) (expr 3 28 (e.Number 2 I32)))))) (expr 3 33 (e.Index (expr 3 33 (e.Var (codes "a"))) (expr 3 35 (e.Number 3 I32))))) ∷ []))))) ∷ stmt 3 40 (s.Value (Some (expr 3 40 (e.Call (codes "print") (expr 3 46 (e.Index (expr 3 46 (e.Var (codes "t"))) (expr 3 48 (e.Number 2 I32))) ∷ []))))) ∷ stmt 3 53 (s.Value (Some (expr 3 53 (e.Call (codes "print") (expr 3 59 (e.Index (expr 3 59 (e.Var (codes "u"))) (expr 3 61 (e.Number 1 I32))) ∷ []))))) ∷ stmt 3 66 (s.Value (Some (expr 3 66 (e.Call (codes "print") (expr 3 72 (e.Index (expr 3 72 (e.Var (codes "u"))) (expr 3 74 (e.Number 5 I32))) ∷ []))))) ∷ stmt 3 79 (s.Value (Some (expr 3 79 (e.Call (codes "print") (expr 3 85 (e.Index (expr 3 85 (e.Index (expr 3 85 (e.Var (codes "m"))) (expr 3 87 (e.Number 0 I32)))) (expr 3 90 (e.Number 0 I32))) ∷ []))))) ∷ stmt 3 95 (s.Value (Some (expr 3 95 (e.Call (codes "print") (expr 3 101 (e.Index (expr 3 101 (e.Index (expr 3 101 (e.Var (codes "m"))) (expr 3 103 (e.Number 0 I32)))) (expr 3 106 (e.Number 2 I32))) ∷ []))))) ∷ stmt 3 111 (s.Value (Some (expr 3 111 (e.Call (codes "print") (expr 3 117 (e.Index (expr 3 117 (e.Index (expr 3 117 (e.Var (codes "m"))) (expr 3 119 (e.Number 1 I32)))) (expr 3 122 (e.Number 2 I32))) ∷ []))))) ∷ stmt 3 127 (s.Value (Some (expr 3 127 (e.Call (codes "print") (expr 3 133 (e.Binary (o.Arithmetic a.Add) (expr 3 133 (e.Binary (o.Arithmetic a.Add) (expr 3 133 (e.Binary (o.Arithmetic a.Add) (expr 3 133 (e.Member (expr 3 133 (e.Var (codes "r"))) (codes "a"))) (expr 3 139 (e.Index (expr 3 139 (e.Member (expr 3 139 (e.Var (codes "r"))) (codes "n"))) (expr 3 143 (e.Number 2 I32)))))) (expr 3 148 (e.Index (expr 3 148 (e.Member (expr 3 148 (e.Var (codes "r"))) (codes "s"))) (expr 3 152 (e.Number 0 I32)))))) (expr 3 157 (e.Index (expr 3 157 (e.Member (expr 3 157 (e.Var (codes "r"))) (codes "s"))) (expr 3 161 (e.Number 1 I32))))) ∷ []))))) ∷ stmt 3 166 (s.Value (Some (expr 3 166 (e.Call (codes "print") (expr 3 172 (e.Binary (o.Comparison c.Equal) (expr 3 172 (e.Member (expr 3 172 (e.Var (codes "r"))) (codes "p"))) (expr 3 179 (e.Unary u.AddressOf (expr 3 180 (e.Var (codes "q")))))) ∷ []))))) ∷ stmt 3 184 (s.Value (Some (expr 3 184 (e.Call (codes "print") (expr 3 190 (e.Binary (o.Arithmetic a.Add) (expr 3 190 (e.Member (expr 3 190 (e.Index (expr 3 190 (e.Var (codes "k"))) (expr 3 192 (e.Number 1 I32)))) (codes "a"))) (expr 3 199 (e.Member (expr 3 199 (e.Index (expr 3 199 (e.Var (codes "k"))) (expr 3 201 (e.Number 0 I32)))) (codes "a")))) ∷ []))))) ∷ stmt 3 208 (s.Value (Some (expr 3 208 (e.Call (codes "print") (expr 3 214 (e.Unary u.Deref (expr 3 215 (e.Var (codes "z")))) ∷ []))))) ∷ stmt 3 219 (s.Value (Some (expr 3 219 (e.Call (codes "print") (expr 3 225 (e.Binary (o.Comparison c.Equal) (expr 3 225 (e.Index (expr 3 225 (e.Var (codes "g"))) (expr 3 227 (e.Number 0 I32)))) (expr 3 233 (e.Index (expr 3 233 (e.Var (codes "g"))) (expr 3 235 (e.Number 1 I32))))) ∷ []))))) ∷ stmt 4 1 (s.Value (Some (expr 4 1 (e.Assign None (expr 4 1 (e.Index (expr 4 1 (e.Var (codes "k"))) (expr 4 3 (e.Number 1 I32)))) (expr 4 8 (e.Var (codes "r"))))))) ∷ stmt 4 11 (s.Value (Some (expr 4 11 (e.Call (codes "print") (expr 4 17 (e.Index (expr 4 17 (e.Member (expr 4 17 (e.Index (expr 4 17 (e.Var (codes "k"))) (expr 4 19 (e.Number 1 I32)))) (codes "n"))) (expr 4 24 (e.Number 0 I32))) ∷ []))))) ∷ stmt 4 29 (s.Value (Some (expr 4 29 (e.Call (codes "print") (expr 4 35 (e.SizeOfValue (expr 4 42 (e.Var (codes "k")))) ∷ []))))) ∷ stmt 4 46 (s.For (Some (expr 4 51 (e.Assign None (expr 4 51 (e.Index (expr 4 51 (e.Var (codes "k"))) (expr 4 53 (e.Number 0 I32)))) (expr 4 58 (e.Index (expr 4 58 (e.Var (codes "k"))) (expr 4 60 (e.Number 1 I32))))))) (Some (expr 4 64 (e.Binary (o.Comparison c.Less) (expr 4 64 (e.Var (codes "i"))) (expr 4 68 (e.Number 4 I32))))) (Some (expr 4 71 (e.Assign None (expr 4 71 (e.Index (expr 4 71 (e.Var (codes "k"))) (expr 4 73 (e.Number 1 I32)))) (expr 4 78 (e.Index (expr 4 78 (e.Var (codes "k"))) (expr 4 80 (e.Number 0 I32))))))) (stmt 4 84 (s.Value (Some (expr 4 84 (e.StepBy true false (expr 4 84 (e.Var (codes "i"))))))))) ∷ stmt 4 89 (s.Value (Some (expr 4 89 (e.Call (codes "print") (expr 4 95 (e.Arrow (expr 4 95 (e.Member (expr 4 95 (e.Index (expr 4 95 (e.Var (codes "k"))) (expr 4 97 (e.Number 1 I32)))) (codes "p"))) (codes "a")) ∷ []))))) ∷ stmt 4 107 (s.Value (Some (expr 4 107 (e.Index (expr 4 107 (e.Var (codes "k"))) (expr 4 109 (e.Number 0 I32)))))) ∷ stmt 4 113 (s.Value (Some (expr 4 113 (e.Var (codes "q"))))) ∷ stmt 4 116 (s.Block (stmt 4 118 (s.Local (decl 4 118 (b.Int I32) 0 (codes "i") ([])) (Some (init 4 126 (i.One (expr 4 126 (e.Number 9 I32)))))) ∷ stmt 4 129 (s.Value (Some (expr 4 129 (e.Call (codes "print") (expr 4 135 (e.Var (codes "i")) ∷ []))))) ∷ [])) ∷ stmt 4 141 (s.Value (Some (expr 4 141 (e.Call (codes "print") (expr 4 147 (e.Var (codes "i")) ∷ []))))) ∷ stmt 5 1 (s.Return (Some (expr 5 8 (e.Number 0 I32)))) ∷ [])))))
        ∷ [];
  };
  meanings = record {
    kinds = Int I32 ∷ Int I32 ∷ Int I32 ∷ Int I32 ∷ Int I32 ∷ Int I32 ∷ Int I32 ∷ Int I32 ∷ Int I32 ∷ Array (Int I8) 4 ∷ Int I32 ∷ Array (Int I8) 3 ∷ Int I32 ∷ Int I32 ∷ Array (Int I8) 2 ∷ Int I32 ∷ Int I32 ∷ Int I32 ∷ Int I32 ∷ Array (Int I8) 4 ∷ Struct 0 ∷ Pointer (Struct 0) ∷ Int I32 ∷ Struct 0 ∷ Int I32 ∷ Int I32 ∷ Int I32 ∷ Pointer (Int I32) ∷ Int I32 ∷ Int I32 ∷ Array (Int I32) 4 ∷ Int I32 ∷ Int I32 ∷ Array (Int I32) 4 ∷ Int I32 ∷ Int I32 ∷ Int I32 ∷ Int I32 ∷ Int I32 ∷ Array (Int I32) 4 ∷ Int I32 ∷ Int I32 ∷ Int I32 ∷ Array (Int I32) 4 ∷ Int I32 ∷ Int I32 ∷ Int I32 ∷ Void ∷ Array (Int I8) 3 ∷ Int I32 ∷ Int I8 ∷ Void ∷ Array (Int I8) 6 ∷ Int I32 ∷ Int I8 ∷ Void ∷ Array (Int I8) 6 ∷ Int I32 ∷ Int I8 ∷ Void ∷ Array (Array (Int I8) 3) 2 ∷ Int I32 ∷ Array (Int I8) 3 ∷ Int I32 ∷ Int I8 ∷ Void ∷ Array (Array (Int I8) 3) 2 ∷ Int I32 ∷ Array (Int I8) 3 ∷ Int I32 ∷ Int I8 ∷ Void ∷ Array (Array (Int I8) 3) 2 ∷ Int I32 ∷ Array (Int I8) 3 ∷ Int I32 ∷ Int I8 ∷ Void ∷ Struct 0 ∷ Int I32 ∷ Struct 0 ∷ Array (Int I8) 4 ∷ Int I32 ∷ Int I8 ∷ Int I32 ∷ Struct 0 ∷ Array (Int I16) 2 ∷ Int I32 ∷ Int I16 ∷ Int I32 ∷ Struct 0 ∷ Array (Int I16) 2 ∷ Int I32 ∷ Int I16 ∷ Int I32 ∷ Void ∷ Struct 0 ∷ Pointer (Struct 0) ∷ Struct 0 ∷ Pointer (Struct 0) ∷ Int I32 ∷ Void ∷ Array (Struct 0) 2 ∷ Int I32 ∷ Struct 0 ∷ Int I32 ∷ Array (Struct 0) 2 ∷ Int I32 ∷ Struct 0 ∷ Int I32 ∷ Int I32 ∷ Void ∷ Pointer (Int I32) ∷ Int I32 ∷ Void ∷ Array (Pointer (Int I64)) 2 ∷ Int I32 ∷ Pointer (Int I64) ∷ Array (Pointer (Int I64)) 2 ∷ Int I32 ∷ Pointer (Int I64) ∷ Int I32 ∷ Void ∷ Array (Struct 0) 2 ∷ Int I32 ∷ Struct 0 ∷ Struct 0 ∷ Struct 0 ∷ Array (Struct 0) 2 ∷ Int I32 ∷ Struct 0 ∷ Array (Int I8) 4 ∷ Int I32 ∷ Int I8 ∷ Void ∷ Array (Struct 0) 2 ∷ Int U64 ∷ Void ∷ Array (Struct 0) 2 ∷ Int I32 ∷ Struct 0 ∷ Array (Struct 0) 2 ∷ Int I32 ∷ Struct 0 ∷ Struct 0 ∷ Int I32 ∷ Int I32 ∷ Int I32 ∷ Array (Struct 0) 2 ∷ Int I32 ∷ Struct 0 ∷ Array (Struct 0) 2 ∷ Int I32 ∷ Struct 0 ∷ Struct 0 ∷ Int I32 ∷ Int I32 ∷ Array (Struct 0) 2 ∷ Int I32 ∷ Struct 0 ∷ Pointer (Struct 0) ∷ Int I32 ∷ Void ∷ Array (Struct 0) 2 ∷ Int I32 ∷ Struct 0 ∷ Struct 0 ∷ Int I32 ∷ Int I32 ∷ Void ∷ Int I32 ∷ Void ∷ Int I32 ∷ [];
    binds = Fun 0 ∷ Local 0 ∷ Local 1 ∷ Local 0 ∷ Local 0 ∷ Local 2 ∷ Local 3 ∷ Local 4 ∷ Local 5 ∷ Local 5 ∷ Local 0 ∷ Local 6 ∷ Local 5 ∷ Local 7 ∷ Local 8 ∷ Local 0 ∷ Local 9 ∷ Local 1 ∷ Local 1 ∷ Local 1 ∷ Local 1 ∷ Service in_c.Print ∷ Local 2 ∷ Service in_c.Print ∷ Local 3 ∷ Service in_c.Print ∷ Local 3 ∷ Service in_c.Print ∷ Local 4 ∷ Service in_c.Print ∷ Local 4 ∷ Service in_c.Print ∷ Local 4 ∷ Service in_c.Print ∷ Local 6 ∷ Local 6 ∷ Local 6 ∷ Local 6 ∷ Service in_c.Print ∷ Local 6 ∷ Local 5 ∷ Service in_c.Print ∷ Local 7 ∷ Local 7 ∷ Service in_c.Print ∷ Local 8 ∷ Service in_c.Print ∷ Local 9 ∷ Local 9 ∷ Service in_c.Print ∷ Local 7 ∷ Local 6 ∷ Local 7 ∷ Service in_c.Print ∷ Local 7 ∷ Service in_c.Print ∷ Local 7 ∷ Local 7 ∷ Local 0 ∷ Local 7 ∷ Local 7 ∷ Local 0 ∷ Local 7 ∷ Service in_c.Print ∷ Local 7 ∷ Local 5 ∷ Local 10 ∷ Local 10 ∷ Service in_c.Print ∷ Local 0 ∷ Service in_c.Print ∷ [];
    declared = Int I32 ∷ Array (Int I8) 4 ∷ Pointer (Struct 0) ∷ Array (Int I16) 2 ∷ Int I32 ∷ Int I32 ∷ Array (Int I32) 4 ∷ Array (Int I8) 3 ∷ Array (Int I8) 6 ∷ Array (Array (Int I8) 3) 2 ∷ Struct 0 ∷ Struct 0 ∷ Array (Struct 0) 2 ∷ Pointer (Int I32) ∷ Array (Pointer (Int I64)) 2 ∷ Int I32 ∷ [];
  };
  layout = record { globals = []; functions = 0 ∷ []; texts = 1; literals = []; frames = record { size = 160; stands = Frame 0 ∷ Frame 4 ∷ Frame 20 ∷ Frame 23 ∷ Frame 29 ∷ Frame 40 ∷ Frame 64 ∷ Frame 88 ∷ Private ∷ Frame 136 ∷ Private ∷ [] } ∷ [] };
  literals = [];
}

-- int twice(int n, char *p){ int *q = &n; *q = *q * 2; return n + p[1]; } char *pick(char *a, long b){ return a + b; } void nothing(short s){ if (s) return; print(77); }
-- int main(void){ int i = 0; int sum = 0; char t[4] = { 1, 2, 3, 4 };
-- while (1) { i++; if (i == 3) continue; if (i > 6) break; sum += i; } print(sum); do { sum--; if (sum == 10) break; if (sum & 1) continue; sum--; } while (sum > 0); print(sum);
-- for (i = 0; i < 3; i++) { int j; for (j = 3; ; ) { if (j-- < 1) break; if (j == i) continue; put(48 + i * 3 + j); } } for (;;) { if (i++ > 5) break; ; } print(i);
-- print(twice(20, t)); print(*pick(t, 2)); print(twice(pick(t, 1)[0], pick(t, 2))); nothing(65536); nothing(1); print(get()); print(free(t));
-- if (i) if (!i) print(1); else print(2); exit(sum + 259); return 1; }
abbrev pub goes_round : Source
goes_round = record {
  tree = record {
    items = item 1 1 (k.Fun (decl 1 1 (b.Int I32) 0 (codes "twice") ([])) (decl 1 11 (b.Int I32) 0 (codes "n") ([]) ∷ decl 1 18 (b.Int I8) 1 (codes "p") ([]) ∷ []) (Some (stmt 1 26 (s.Block (stmt 1 28 (s.Local (decl 1 28 (b.Int I32) 1 (codes "q") ([])) (Some (init 1 37 (i.One (expr 1 37 (e.Unary u.AddressOf (expr 1 38 (e.Var (codes "n"))))))))) ∷ stmt 1 41 (s.Value (Some (expr 1 41 (e.Assign None (expr 1 41 (e.Unary u.Deref (expr 1 42 (e.Var (codes "q"))))) (expr 1 46 (e.Binary (o.Arithmetic a.Mul) (expr 1 46 (e.Unary u.Deref (expr 1 47 (e.Var (codes "q"))))) (expr 1 51 (e.Number 2 I32)))))))) ∷ stmt 1 54 (s.Return (Some (expr 1 61 (e.Binary (o.Arithmetic a.Add) (expr 1 61 (e.Var (codes "n"))) (expr 1 65 (e.Index (expr 1 65 (e.Var (codes "p"))) (expr 1 67 (e.Number 1 I32)))))))) ∷ [])))))
        ∷ item 1 73 (k.Fun (decl 1 73 (b.Int I8) 1 (codes "pick") ([])) (decl 1 84 (b.Int I8) 1 (codes "a") ([]) ∷ decl 1 93 (b.Int I64) 0 (codes "b") ([]) ∷ []) (Some (stmt 1 100 (s.Block (stmt 1 102 (s.Return (Some (expr 1 109 (e.Binary (o.Arithmetic a.Add) (expr 1 109 (e.Var (codes "a"))) (expr 1 113 (e.Var (codes "b"))))))) ∷ [])))))
        ∷ item 1 118 (k.Fun (decl 1 118 b.Void 0 (codes "nothing") ([])) (decl 1 131 (b.Int I16) 0 (codes "s") ([]) ∷ []) (Some (stmt 1 139 (s.Block (stmt 1 141 (s.If (expr 1 145 (e.Var (codes "s"))) (stmt 1 148 (s.Return None)) None) ∷ stmt 1 156 (s.Value (Some (expr 1 156 (e.Call (codes "print") (expr 1 162 (e.Number 77 I32) ∷ []))))) ∷ [])))))
        ∷ item 2 1 (k.Fun (decl 2 1 (b.Int I32) 0 (codes "main") ([])) ([]) (Some (stmt 2 15 (s.Block (stmt 2 17 (s.Local (decl 2 17 (b.Int I32) 0 (codes "i") ([])) (Some (init 2 25 (i.One (expr 2 25 (e.Number 0 I32)))))) ∷ stmt 2 28 (s.Local (decl 2 28 (b.Int I32) 0 (codes "sum") ([])) (Some (init 2 38 (i.One (expr 2 38 (e.Number 0 I32)))))) ∷ stmt 2 41 (s.Local (decl 2 41 (b.Int I8) 0 (codes "t") (expr 2 48 (e.Number 4 I32) ∷ [])) (Some (init 2 53 (i.Many (init 2 55 (i.One (expr 2 55 (e.Number 1 I32))) ∷ init 2 58 (i.One (expr 2 58 (e.Number 2 I32))) ∷ init 2 61 (i.One (expr 2 61 (e.Number 3 I32))) ∷ init 2 64 (i.One (expr 2 64 (e.Number 4 I32))) ∷ []))))) ∷ stmt 3 1 (s.While (expr 3 8 (e.Number 1 I32)) (stmt 3 11 (s.Block (stmt 3 13 (s.Value (Some (expr 3 13 (e.StepBy true false (expr 3 13 (e.Var (codes "i"))))))) ∷ stmt 3 18 (s.If (expr 3 22 (e.Binary (o.Comparison c.Equal) (expr 3 22 (e.Var (codes "i"))) (expr 3 27 (e.Number 3 I32)))) (stmt 3 30 s.Continue) None) ∷ stmt 3 40 (s.If (expr 3 44 (e.Binary (o.Comparison c.Greater) (expr 3 44 (e.Var (codes "i"))) (expr 3 48 (e.Number 6 I32)))) (stmt 3 51 s.Break) None) ∷ stmt 3 58 (s.Value (Some (expr 3 58 (e.Assign (Some a.Add) (expr 3 58 (e.Var (codes "sum"))) (expr 3 65 (e.Var (codes "i"))))))) ∷ [])))) ∷ stmt 3 70 (s.Value (Some (expr 3 70 (e.Call (codes "print") (expr 3 76 (e.Var (codes "sum")) ∷ []))))) ∷ stmt 3 82 (s.DoWhile (stmt 3 85 (s.Block (stmt 3 87 (s.Value (Some (expr 3 87 (e.StepBy false false (expr 3 87 (e.Var (codes "sum"))))))) ∷ stmt 3 94 (s.If (expr 3 98 (e.Binary (o.Comparison c.Equal) (expr 3 98 (e.Var (codes "sum"))) (expr 3 105 (e.Number 10 I32)))) (stmt 3 109 s.Break) None) ∷ stmt 3 116 (s.If (expr 3 120 (e.Binary (o.Arithmetic a.BitAnd) (expr 3 120 (e.Var (codes "sum"))) (expr 3 126 (e.Number 1 I32)))) (stmt 3 129 s.Continue) None) ∷ stmt 3 139 (s.Value (Some (expr 3 139 (e.StepBy false false (expr 3 139 (e.Var (codes "sum"))))))) ∷ []))) (expr 3 155 (e.Binary (o.Comparison c.Greater) (expr 3 155 (e.Var (codes "sum"))) (expr 3 161 (e.Number 0 I32))))) ∷ stmt 3 165 (s.Value (Some (expr 3 165 (e.Call (codes "print") (expr 3 171 (e.Var (codes "sum")) ∷ []))))) ∷ stmt 4 1 (s.For (Some (expr 4 6 (e.Assign None (expr 4 6 (e.Var (codes "i"))) (expr 4 10 (e.Number 0 I32))))) (Some (expr 4 13 (e.Binary (o.Comparison c.Less) (expr 4 13 (e.Var (codes "i"))) (expr 4 17 (e.Number 3 I32))))) (Some (expr 4 20 (e.StepBy true false (expr 4 20 (e.Var (codes "i")))))) (stmt 4 25 (s.Block (stmt 4 27 (s.Local (decl 4 27 (b.Int I32) 0 (codes "j") ([])) None) ∷ stmt 4 34 (s.For (Some (expr 4 39 (e.Assign None (expr 4 39 (e.Var (codes "j"))) (expr 4 43 (e.Number 3 I32))))) None None (stmt 4 50 (s.Block (stmt 4 52 (s.If (expr 4 56 (e.Binary (o.Comparison c.Less) (expr 4 56 (e.StepBy false false (expr 4 56 (e.Var (codes "j"))))) (expr 4 62 (e.Number 1 I32)))) (stmt 4 65 s.Break) None) ∷ stmt 4 72 (s.If (expr 4 76 (e.Binary (o.Comparison c.Equal) (expr 4 76 (e.Var (codes "j"))) (expr 4 81 (e.Var (codes "i"))))) (stmt 4 84 s.Continue) None) ∷ stmt 4 94 (s.Value (Some (expr 4 94 (e.Call (codes "put") (expr 4 98 (e.Binary (o.Arithmetic a.Add) (expr 4 98 (e.Binary (o.Arithmetic a.Add) (expr 4 98 (e.Number 48 I32)) (expr 4 103 (e.Binary (o.Arithmetic a.Mul) (expr 4 103 (e.Var (codes "i"))) (expr 4 107 (e.Number 3 I32)))))) (expr 4 111 (e.Var (codes "j")))) ∷ []))))) ∷ [])))) ∷ [])))) ∷ stmt 4 119 (s.For None None None (stmt 4 128 (s.Block (stmt 4 130 (s.If (expr 4 134 (e.Binary (o.Comparison c.Greater) (expr 4 134 (e.StepBy true false (expr 4 134 (e.Var (codes "i"))))) (expr 4 140 (e.Number 5 I32)))) (stmt 4 143 s.Break) None) ∷ stmt 4 150 (s.Value None) ∷ [])))) ∷ stmt 4 154 (s.Value (Some (expr 4 154 (e.Call (codes "print") (expr 4 160 (e.Var (codes "i")) ∷ []))))) ∷ stmt 5 1 (s.Value (Some (expr 5 1 (e.Call (codes "print") (expr 5 7 (e.Call (codes "twice") (expr 5 13 (e.Number 20 I32) ∷ expr 5 17 (e.Var (codes "t")) ∷ [])) ∷ []))))) ∷ stmt 5 22 (s.Value (Some (expr 5 22 (e.Call (codes "print") (expr 5 28 (e.Unary u.Deref (expr 5 29 (e.Call (codes "pick") (expr 5 34 (e.Var (codes "t")) ∷ expr 5 37 (e.Number 2 I32) ∷ [])))) ∷ []))))) ∷ stmt 5 42 (s.Value (Some (expr 5 42 (e.Call (codes "print") (expr 5 48 (e.Call (codes "twice") (expr 5 54 (e.Index (expr 5 54 (e.Call (codes "pick") (expr 5 59 (e.Var (codes "t")) ∷ expr 5 62 (e.Number 1 I32) ∷ []))) (expr 5 65 (e.Number 0 I32))) ∷ expr 5 69 (e.Call (codes "pick") (expr 5 74 (e.Var (codes "t")) ∷ expr 5 77 (e.Number 2 I32) ∷ [])) ∷ [])) ∷ []))))) ∷ stmt 5 83 (s.Value (Some (expr 5 83 (e.Call (codes "nothing") (expr 5 91 (e.Number 65536 I32) ∷ []))))) ∷ stmt 5 99 (s.Value (Some (expr 5 99 (e.Call (codes "nothing") (expr 5 107 (e.Number 1 I32) ∷ []))))) ∷ stmt 5 111 (s.Value (Some (expr 5 111 (e.Call (codes "print") (expr 5 117 (e.Call (codes "get") ([])) ∷ []))))) ∷ stmt 5 125 (s.Value (Some (expr 5 125 (e.Call (codes "print") (expr 5 131 (e.Call (codes "free") (expr 5 136 (e.Var (codes "t")) ∷ [])) ∷ []))))) ∷ stmt 6 1 (s.If (expr 6 5 (e.Var (codes "i"))) (stmt 6 8 (s.If (expr 6 12 (e.Unary u.Not (expr 6 13 (e.Var (codes "i"))))) (stmt 6 16 (s.Value (Some (expr 6 16 (e.Call (codes "print") (expr 6 22 (e.Number 1 I32) ∷ [])))))) (Some (stmt 6 31 (s.Value (Some (expr 6 31 (e.Call (codes "print") (expr 6 37 (e.Number 2 I32) ∷ []))))))))) None) ∷ stmt 6 41 (s.Value (Some (expr 6 41 (e.Call (codes "exit") (expr 6 46 (e.Binary (o.Arithmetic a.Add) (expr 6 46 (e.Var (codes "sum"))) (expr 6 52 (e.Number 259 I32))) ∷ []))))) ∷ stmt 6 58 (s.Return (Some (expr 6 65 (e.Number 1 I32)))) ∷ [])))))
        ∷ [];
  };
  meanings = record {
    kinds = Int I32 ∷ Pointer (Int I32) ∷ Pointer (Int I32) ∷ Int I32 ∷ Pointer (Int I32) ∷ Int I32 ∷ Int I32 ∷ Int I32 ∷ Int I32 ∷ Int I32 ∷ Pointer (Int I8) ∷ Int I32 ∷ Int I8 ∷ Int I32 ∷ Pointer (Int I8) ∷ Int I64 ∷ Pointer (Int I8) ∷ Int I16 ∷ Int I32 ∷ Void ∷ Int I32 ∷ Int I32 ∷ Int I32 ∷ Int I32 ∷ Int I32 ∷ Int I32 ∷ Int I32 ∷ Int I32 ∷ Int I32 ∷ Int I32 ∷ Int I32 ∷ Int I32 ∷ Int I32 ∷ Int I32 ∷ Int I32 ∷ Int I32 ∷ Int I32 ∷ Int I32 ∷ Int I32 ∷ Int I32 ∷ Void ∷ Int I32 ∷ Int I32 ∷ Int I32 ∷ Int I32 ∷ Int I32 ∷ Int I32 ∷ Int I32 ∷ Int I32 ∷ Int I32 ∷ Int I32 ∷ Int I32 ∷ Int I32 ∷ Int I32 ∷ Int I32 ∷ Void ∷ Int I32 ∷ Int I32 ∷ Int I32 ∷ Int I32 ∷ Int I32 ∷ Int I32 ∷ Int I32 ∷ Int I32 ∷ Int I32 ∷ Int I32 ∷ Int I32 ∷ Int I32 ∷ Int I32 ∷ Int I32 ∷ Int I32 ∷ Int I32 ∷ Int I32 ∷ Int I32 ∷ Int I32 ∷ Int I32 ∷ Int I32 ∷ Int I32 ∷ Int I32 ∷ Int I32 ∷ Int I32 ∷ Void ∷ Int I32 ∷ Int I32 ∷ Int I32 ∷ Int I32 ∷ Int I32 ∷ Void ∷ Int I32 ∷ Array (Int I8) 4 ∷ Int I32 ∷ Void ∷ Array (Int I8) 4 ∷ Int I32 ∷ Pointer (Int I8) ∷ Int I8 ∷ Void ∷ Array (Int I8) 4 ∷ Int I32 ∷ Pointer (Int I8) ∷ Int I32 ∷ Int I8 ∷ Array (Int I8) 4 ∷ Int I32 ∷ Pointer (Int I8) ∷ Int I32 ∷ Void ∷ Int I32 ∷ Void ∷ Int I32 ∷ Void ∷ Int I32 ∷ Void ∷ Array (Int I8) 4 ∷ Int I32 ∷ Void ∷ Int I32 ∷ Int I32 ∷ Int I32 ∷ Int I32 ∷ Void ∷ Int I32 ∷ Void ∷ Int I32 ∷ Int I32 ∷ Int I32 ∷ Void ∷ Int I32 ∷ [];
    binds = Fun 0 ∷ Local 0 ∷ Local 1 ∷ Local 2 ∷ Local 0 ∷ Local 2 ∷ Local 2 ∷ Local 0 ∷ Local 1 ∷ Fun 1 ∷ Local 0 ∷ Local 1 ∷ Local 0 ∷ Local 1 ∷ Fun 2 ∷ Local 0 ∷ Local 0 ∷ Service in_c.Print ∷ Fun 3 ∷ Local 0 ∷ Local 1 ∷ Local 2 ∷ Local 0 ∷ Local 0 ∷ Local 0 ∷ Local 1 ∷ Local 0 ∷ Local 1 ∷ Service in_c.Print ∷ Local 1 ∷ Local 1 ∷ Local 1 ∷ Local 1 ∷ Local 1 ∷ Local 1 ∷ Service in_c.Print ∷ Local 0 ∷ Local 0 ∷ Local 0 ∷ Local 3 ∷ Local 3 ∷ Local 3 ∷ Local 3 ∷ Local 0 ∷ Local 0 ∷ Local 3 ∷ Service in_c.Put ∷ Local 0 ∷ Local 0 ∷ Service in_c.Print ∷ Local 2 ∷ Fun 0 ∷ Service in_c.Print ∷ Local 2 ∷ Fun 1 ∷ Service in_c.Print ∷ Local 2 ∷ Fun 1 ∷ Local 2 ∷ Fun 1 ∷ Fun 0 ∷ Service in_c.Print ∷ Fun 2 ∷ Fun 2 ∷ Service in_c.Get ∷ Service in_c.Print ∷ Local 2 ∷ Service in_c.Free ∷ Service in_c.Print ∷ Local 0 ∷ Local 0 ∷ Service in_c.Print ∷ Service in_c.Print ∷ Local 1 ∷ Service in_c.Exit ∷ [];
    declared = Int I32 ∷ Int I32 ∷ Pointer (Int I8) ∷ Pointer (Int I32) ∷ Pointer (Int I8) ∷ Pointer (Int I8) ∷ Int I64 ∷ Void ∷ Int I16 ∷ Int I32 ∷ Int I32 ∷ Int I32 ∷ Array (Int I8) 4 ∷ Int I32 ∷ [];
  };
  layout = record { globals = []; functions = 0 ∷ 1 ∷ 2 ∷ 3 ∷ []; texts = 4; literals = []; frames = record { size = 16; stands = Frame 0 ∷ Private ∷ Private ∷ [] } ∷ record { size = 0; stands = Private ∷ Private ∷ [] } ∷ record { size = 0; stands = Private ∷ [] } ∷ record { size = 16; stands = Private ∷ Private ∷ Frame 0 ∷ Private ∷ [] } ∷ [] };
  literals = [];
}

-- char t[4]; int one(void){ print(1); return 1; } char *two(void){ print(2); t[1] = 5; return t; } void set(char *p){ *p = 6; }
-- int main(void){ char *p; int i = 0; print(*(one() + two())); print(*(two() + one())); p = i++ + t; print(p - t + i); set(1 + t); print(t[1]);
-- return 0; }
abbrev pub adds_in_order : Source
adds_in_order = record {
  tree = record {
    items = item 1 1 (k.Var false (decl 1 1 (b.Int I8) 0 (codes "t") (expr 1 8 (e.Number 4 I32) ∷ [])) None)
        ∷ item 1 12 (k.Fun (decl 1 12 (b.Int I32) 0 (codes "one") ([])) ([]) (Some (stmt 1 25 (s.Block (stmt 1 27 (s.Value (Some (expr 1 27 (e.Call (codes "print") (expr 1 33 (e.Number 1 I32) ∷ []))))) ∷ stmt 1 37 (s.Return (Some (expr 1 44 (e.Number 1 I32)))) ∷ [])))))
        ∷ item 1 49 (k.Fun (decl 1 49 (b.Int I8) 1 (codes "two") ([])) ([]) (Some (stmt 1 64 (s.Block (stmt 1 66 (s.Value (Some (expr 1 66 (e.Call (codes "print") (expr 1 72 (e.Number 2 I32) ∷ []))))) ∷ stmt 1 76 (s.Value (Some (expr 1 76 (e.Assign None (expr 1 76 (e.Index (expr 1 76 (e.Var (codes "t"))) (expr 1 78 (e.Number 1 I32)))) (expr 1 83 (e.Number 5 I32)))))) ∷ stmt 1 86 (s.Return (Some (expr 1 93 (e.Var (codes "t"))))) ∷ [])))))
        ∷ item 1 98 (k.Fun (decl 1 98 b.Void 0 (codes "set") ([])) (decl 1 107 (b.Int I8) 1 (codes "p") ([]) ∷ []) (Some (stmt 1 115 (s.Block (stmt 1 117 (s.Value (Some (expr 1 117 (e.Assign None (expr 1 117 (e.Unary u.Deref (expr 1 118 (e.Var (codes "p"))))) (expr 1 122 (e.Number 6 I32)))))) ∷ [])))))
        ∷ item 2 1 (k.Fun (decl 2 1 (b.Int I32) 0 (codes "main") ([])) ([]) (Some (stmt 2 15 (s.Block (stmt 2 17 (s.Local (decl 2 17 (b.Int I8) 1 (codes "p") ([])) None) ∷ stmt 2 26 (s.Local (decl 2 26 (b.Int I32) 0 (codes "i") ([])) (Some (init 2 34 (i.One (expr 2 34 (e.Number 0 I32)))))) ∷ stmt 2 37 (s.Value (Some (expr 2 37 (e.Call (codes "print") (expr 2 43 (e.Unary u.Deref (expr 2 45 (e.Binary (o.Arithmetic a.Add) (expr 2 45 (e.Call (codes "one") ([]))) (expr 2 53 (e.Call (codes "two") ([])))))) ∷ []))))) ∷ stmt 2 62 (s.Value (Some (expr 2 62 (e.Call (codes "print") (expr 2 68 (e.Unary u.Deref (expr 2 70 (e.Binary (o.Arithmetic a.Add) (expr 2 70 (e.Call (codes "two") ([]))) (expr 2 78 (e.Call (codes "one") ([])))))) ∷ []))))) ∷ stmt 2 87 (s.Value (Some (expr 2 87 (e.Assign None (expr 2 87 (e.Var (codes "p"))) (expr 2 91 (e.Binary (o.Arithmetic a.Add) (expr 2 91 (e.StepBy true false (expr 2 91 (e.Var (codes "i"))))) (expr 2 97 (e.Var (codes "t"))))))))) ∷ stmt 2 100 (s.Value (Some (expr 2 100 (e.Call (codes "print") (expr 2 106 (e.Binary (o.Arithmetic a.Add) (expr 2 106 (e.Binary (o.Arithmetic a.Sub) (expr 2 106 (e.Var (codes "p"))) (expr 2 110 (e.Var (codes "t"))))) (expr 2 114 (e.Var (codes "i")))) ∷ []))))) ∷ stmt 2 118 (s.Value (Some (expr 2 118 (e.Call (codes "set") (expr 2 122 (e.Binary (o.Arithmetic a.Add) (expr 2 122 (e.Number 1 I32)) (expr 2 126 (e.Var (codes "t")))) ∷ []))))) ∷ stmt 2 130 (s.Value (Some (expr 2 130 (e.Call (codes "print") (expr 2 136 (e.Index (expr 2 136 (e.Var (codes "t"))) (expr 2 138 (e.Number 1 I32))) ∷ []))))) ∷ stmt 3 1 (s.Return (Some (expr 3 8 (e.Number 0 I32)))) ∷ [])))))
        ∷ [];
  };
  meanings = record {
    kinds = Int I32 ∷ Int I32 ∷ Void ∷ Int I32 ∷ Int I32 ∷ Void ∷ Array (Int I8) 4 ∷ Int I32 ∷ Int I8 ∷ Int I32 ∷ Int I8 ∷ Array (Int I8) 4 ∷ Pointer (Int I8) ∷ Int I8 ∷ Int I32 ∷ Int I8 ∷ Int I32 ∷ Int I32 ∷ Pointer (Int I8) ∷ Pointer (Int I8) ∷ Int I8 ∷ Void ∷ Pointer (Int I8) ∷ Int I32 ∷ Pointer (Int I8) ∷ Int I8 ∷ Void ∷ Pointer (Int I8) ∷ Int I32 ∷ Int I32 ∷ Array (Int I8) 4 ∷ Pointer (Int I8) ∷ Pointer (Int I8) ∷ Pointer (Int I8) ∷ Array (Int I8) 4 ∷ Int I64 ∷ Int I32 ∷ Int I64 ∷ Void ∷ Int I32 ∷ Array (Int I8) 4 ∷ Pointer (Int I8) ∷ Void ∷ Array (Int I8) 4 ∷ Int I32 ∷ Int I8 ∷ Void ∷ Int I32 ∷ [];
    binds = Global 0 ∷ Fun 0 ∷ Service in_c.Print ∷ Fun 1 ∷ Service in_c.Print ∷ Global 0 ∷ Global 0 ∷ Fun 2 ∷ Local 0 ∷ Local 0 ∷ Fun 3 ∷ Local 0 ∷ Local 1 ∷ Fun 0 ∷ Fun 1 ∷ Service in_c.Print ∷ Fun 1 ∷ Fun 0 ∷ Service in_c.Print ∷ Local 0 ∷ Local 1 ∷ Global 0 ∷ Local 0 ∷ Global 0 ∷ Local 1 ∷ Service in_c.Print ∷ Global 0 ∷ Fun 2 ∷ Global 0 ∷ Service in_c.Print ∷ [];
    declared = Array (Int I8) 4 ∷ Int I32 ∷ Pointer (Int I8) ∷ Void ∷ Pointer (Int I8) ∷ Int I32 ∷ Pointer (Int I8) ∷ Int I32 ∷ [];
  };
  layout = record { globals = 0 ∷ []; functions = 1 ∷ 2 ∷ 3 ∷ 4 ∷ []; texts = 5; literals = []; frames = record { size = 0; stands = [] } ∷ record { size = 0; stands = [] } ∷ record { size = 0; stands = Private ∷ [] } ∷ record { size = 0; stands = Private ∷ Private ∷ [] } ∷ [] };
  literals = [];
}
