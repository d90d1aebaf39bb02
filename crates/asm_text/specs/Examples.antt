-- Small texts, and the objects or the refused lines that they are.
use Rattle.std.specs.Prelude.{◌≡◌, ℕ, true, ◌+◌, ◌*◌, nat_eq, if◌then◌else◌, List, [], ◌∷◌, map, Result, Ok, Err, codes, ℤ, pos, negsuc}
use Rattle.obj_file.specs.declared.object.Object.{Object}
use Rattle.obj_file.specs.declared.object.Symbol.{Symbol}
use Rattle.obj_file.specs.declared.object.Fix.{Fix}
use Rattle.asm_text.specs.declared.fault.AsmKind.{AsmKind}
use Rattle.asm_text.specs.declared.fault.AsmKind.TheVariants as fault
use Rattle.asm_text.specs.Lexical.{digit_of}
use Rattle.asm_text.specs.Assembly.{assembled}

-- a text in which `/` stands for the end of a line
abbrev pub lined : List ℕ → List ℕ
lined = map (λ b. if nat_eq b 47 then 10 else b)

-- bytes of two hexadecimal digits each
abbrev pub hexadecimal : List ℕ → List ℕ
hexadecimal [] = []
hexadecimal (high ∷ []) = []
hexadecimal (high ∷ low ∷ more) = (16 * digit_of high + digit_of low) ∷ hexadecimal more

-- the text has an object with this code
abbrev pub HasCode : Result Object (ℕ × AsmKind) → List ℕ → Type 0
HasCode (Ok o) code = o.code ≡ code
HasCode (Err e) code = ⊥

abbrev pub Codes : List ℕ × List ℕ → Type 0
Codes row = HasCode (assembled (lined row.0)) (hexadecimal row.1)

-- the text has an object with this data
abbrev pub HasStored : Result Object (ℕ × AsmKind) → List ℕ → Type 0
HasStored (Ok o) stored = o.stored ≡ stored
HasStored (Err e) stored = ⊥

abbrev pub Stores : List ℕ × List ℕ → Type 0
Stores row = HasStored (assembled (lined row.0)) (hexadecimal row.1)

-- the text is refused at a line
abbrev pub Refuses : List ℕ × ℕ × AsmKind → Type 0
Refuses row = assembled (lined row.0) ≡ Err (row.1, row.2)

-- instructions of MPX, labels and fields for the linker, and others
abbrev pub examples_of_bounds_code : List (List ℕ × List ℕ)
examples_of_bounds_code =
    (codes "nop", codes "90")
    ∷ (codes "bndmk bnd0, [rdi+7]", codes "F30F1B4707")
    ∷ (codes "bndmov [rsp+8], bnd2", codes "660F1B542408")
    ∷ (codes "bndldx bnd3, [rbx+rdx+16]", codes "0F1A5C1310")
    ∷ (codes "bndstx [rbx+rdx], bnd1", codes "0F1B0C13")
    ∷ (codes "bndcl bnd1, [rax]", codes "F30F1A08")
    ∷ (codes "bndcu bnd0, rcx", codes "F20F1AC1")
    ∷ (codes "bndldx bnd0, [r13+r8]", codes "430F1A440500")
    ∷ (codes "mov rax, rdi", codes "4889F8")
    ∷ (codes "bnd ret", codes "F2C3")
    ∷ (codes "each:/mov rax, rdi/mov rdi, rsi/bndmov bnd0, bnd1/bnd call rax/bnd ret", codes "4889F84889F7660F1AC1F2FFD0F2C3")
    ∷ (codes "  jmp .La ; to the end/nop/ .La : /jmp .La-1", codes "E90100000090E9FAFFFFFF")
    ∷ (codes "mov eax, f/bnd call f/jne f+2", codes "B800000000F2E8000000000F8500000000")
    ∷ (codes "mov rax, f", codes "48C7C000000000")
    ∷ []

-- every other form
abbrev pub examples_of_code : List (List ℕ × List ℕ)
examples_of_code =
    (codes "mov rax, [f]/mov [rbx+f-1], rcx/mov dword [rip+f], 5", codes "488B04250000000048898B00000000C7050000000005000000")
    ∷ (codes "mov rax, -1/mov rax, 0xffffffff/mov eax, 0xffffffff", codes "48C7C0FFFFFFFF48B8FFFFFFFF00000000B8FFFFFFFF")
    ∷ (codes "mov byte [rax], 255/mov word [rax], -2/mov qword [rax], 0xffffffffffffffff", codes "C600FF66C700FEFF48C700FFFFFFFF")
    ∷ (codes "mov [rax], sil/mov r8w, [rax]/mov ecx, [rsp]", codes "40883066448B008B0C24")
    ∷ (codes "movsxd rax, ecx/movsxd rax, [rcx]/movzx eax, byte [rcx]/movzx eax, cx/movsx rax, cl", codes "4863C14863010FB6010FB7C1480FBEC1")
    ∷ (codes "lea rax, [rbx+rcx*4-8]/lea rax, [rcx*1]/lea rax, [-8]", codes "488D448BF8488D040D00000000488D0425F8FFFFFF")
    ∷ (codes "add eax, 5/cmp rax, 1000/sub qword [rax], -1/xor ecx, [rdx]/and [rdx], r9", codes "83C0054881F8E8030000488328FF330A4C210A")
    ∷ (codes "test [rax], eax/imul rax, rcx/idiv dword [rcx]/neg r9/cdq/cqo", codes "8500480FAFC1F73949F7D9994899")
    ∷ (codes "shl eax, cl/sar qword [rax], 3/shr ecx, 255", codes "D3E048C13803C1E9FF")
    ∷ (codes "setg al/sete byte [rax]/setb dil", codes "0F9FC00F9400400F92C7")
    ∷ (codes "push rax/pop r12/call [rax]/jmp rax/jl rel -6/call rel 0x10", codes "50415CFF10FFE00F8CFAFFFFFFE810000000")
    ∷ (codes "syscall/ud2/ret", codes "0F050F0BC3")
    ∷ (codes "bndcn bnd3, [rip+8]/bndmov bnd2, [rax]/bndmk bnd1, [rdx*2]", codes "F20F1B1D08000000660F1A10F30F1B0C5500000000")
    ∷ (codes ".byte 1, -1, 0xFF", codes "01FFFF")
    ∷ []

-- directives of data
abbrev pub examples_of_data : List (List ℕ × List ℕ)
examples_of_data =
    (codes ".data/a:/.byte 7/.align 4/.quad -2/.quad a+1/.zero 3", codes "07000000FEFFFFFFFFFFFFFF0000000000000000000000")
    ∷ []

-- lines outside the grammar
abbrev pub examples_of_shape : List (List ℕ × ℕ × AsmKind)
examples_of_shape =
    (codes "int", 1, fault.Shape)
    ∷ (codes "mov rax", 1, fault.Shape)
    ∷ (codes "nop/mov eax, rcx", 2, fault.Shape)
    ∷ (codes "mov rax, [rbx*3+rsp*2]", 1, fault.Shape)
    ∷ (codes "lea rax, [8+rax]", 1, fault.Shape)
    ∷ (codes "lea rax, [rip]", 1, fault.Shape)
    ∷ (codes "lea rax, []", 1, fault.Shape)
    ∷ (codes "a: nop", 1, fault.Shape)
    ∷ (codes "MOV rax, rcx", 1, fault.Shape)
    ∷ (codes "bnd nop", 1, fault.Shape)
    ∷ (codes "mov [rax], 5", 1, fault.Shape)
    ∷ (codes "call dword [rax]", 1, fault.Shape)
    ∷ (codes "lea rax, [rax+rsp*2]", 1, fault.Shape)
    ∷ (codes "bndmk bnd0, [rip+8]", 1, fault.Shape)
    ∷ (codes "rax:", 1, fault.Shape)
    ∷ (codes ".quad 5", 1, fault.Shape)
    ∷ (codes ".data/nop", 2, fault.Shape)
    ∷ (codes ".byte", 1, fault.Shape)
    ∷ (codes ".byte 1,", 1, fault.Shape)
    ∷ (codes "f:/.sig f d8", 2, fault.Shape)
    ∷ (codes ".data/f:/.sig f fi()", 3, fault.Shape)
    ∷ (codes "f:/.sig f fi(ppppp)", 2, fault.Shape)
    ∷ (codes "f:/.sig f fi( )", 2, fault.Shape)
    ∷ (codes ".sig .La fi()", 1, fault.Shape)
    ∷ []

-- lines refused otherwise
abbrev pub examples_of_refusals : List (List ℕ × ℕ × AsmKind)
examples_of_refusals =
    (codes "mov rax, 18446744073709551616", 1, fault.Range)
    ∷ (codes "add rax, 0x80000000", 1, fault.Range)
    ∷ (codes "lea rax, [rbx*3]", 1, fault.Range)
    ∷ (codes "lea rax, [rax+2147483648]", 1, fault.Range)
    ∷ (codes "shl eax, 256", 1, fault.Range)
    ∷ (codes ".byte 256", 1, fault.Range)
    ∷ (codes ".byte -129", 1, fault.Range)
    ∷ (codes ".data/.zero 16777217", 2, fault.Range)
    ∷ (codes ".data/.zero -1", 2, fault.Range)
    ∷ (codes ".data/.align 3", 2, fault.Range)
    ∷ (codes "jmp rel 2147483648", 1, fault.Range)
    ∷ (codes "jmp .La+2147483647/nop/.La:", 1, fault.Range)
    ∷ (codes ".data/.quad f+9223372036854775808", 2, fault.Range)
    ∷ (codes "a:/a:", 2, fault.Twice)
    ∷ (codes ".La:/.data/.La:", 3, fault.Twice)
    ∷ (codes "f:/.sig f fi()/.sig f fi()", 3, fault.Twice)
    ∷ (codes "jmp .La", 1, fault.NoLocal)
    ∷ (codes ".data/.La:/.text/jmp .La", 4, fault.NoLocal)
    ∷ (codes ".sig f fi()/f:", 1, fault.NoLocal)
    ∷ (codes "nop/.sig g d8", 2, fault.NoLocal)
    ∷ []

-- a whole object: `.data`, a label with its signature, an import, and a fix-up of each form
abbrev pub example_text : List ℕ
example_text = lined (codes "main:/.sig main fi()/call put/mov eax, number+1/lea rax, [rip+number]/mov dword [rip+number], 5/mov dword [number+4], 6/ret/.data/number:/.sig number d8/.quad main")

abbrev pub example_object : Object
example_object = record {
  legacy = true;
  file = [];
  code = hexadecimal (codes "E800000000B800000000488D0500000000C7050000000005000000C704250000000006000000C3");
  stored = hexadecimal (codes "0000000000000000");
  symbols =
      record { part = 1; offset = 0; name = codes "main"; sig = codes "fi()" }
      ∷ record { part = 2; offset = 0; name = codes "number"; sig = codes "d8" }
      ∷ record { part = 0; offset = 0; name = codes "put"; sig = [] }
      ∷ [];
  fixes =
      record { part = 1; offset = 1; form = 2; symbol = 2; addend = pos 0 }
      ∷ record { part = 1; offset = 6; form = 1; symbol = 1; addend = pos 1 }
      ∷ record { part = 1; offset = 13; form = 2; symbol = 1; addend = pos 0 }
      ∷ record { part = 1; offset = 19; form = 2; symbol = 1; addend = negsuc 3 }
      ∷ record { part = 1; offset = 30; form = 1; symbol = 1; addend = pos 4 }
      ∷ record { part = 2; offset = 0; form = 0; symbol = 0; addend = pos 0 }
      ∷ [];
  places = [];
}
