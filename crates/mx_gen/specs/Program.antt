-- The generated program: records in lists that are made, reversed and summed, with a call of legacy code for each record.
use Rattle.std.specs.Prelude.{ℕ, zero, suc, ◌+◌, ◌*◌, ◌%◌, List, [], ◌∷◌, ◌++◌, codes, decimal, flat_map}

-- lines in turn, each ended by a line feed
abbrev pub text : List (List ℕ) → List ℕ
text lines = flat_map (λ line. line ++ codes "\n") lines

-- a line with a number in it
unfoldable pub line_with : List ℕ → ℕ → List ℕ → List ℕ
line_with before n after = text ((before ++ (decimal n ++ after)) ∷ [])

-- the struct, what counts the records, and the functions that every list is given to
unfoldable pub shared_part : List ℕ
shared_part = text (
    codes "struct Rec {" ∷
    codes "    long key;" ∷
    codes "    char name[8];" ∷
    codes "    struct Rec *next;" ∷
    codes "};" ∷
    codes "long made;" ∷
    codes "long each(void *f, struct Rec *r);" ∷
    codes "long tally(struct Rec *r) {" ∷
    codes "    return r->key % 7;" ∷
    codes "}" ∷
    codes "struct Rec *reverse(struct Rec *p) {" ∷
    codes "    struct Rec *q = 0;" ∷
    codes "    struct Rec *n;" ∷
    codes "    while (p != 0) {" ∷
    codes "        n = p->next;" ∷
    codes "        p->next = q;" ∷
    codes "        q = p;" ∷
    codes "        p = n;" ∷
    codes "    }" ∷
    codes "    return q;" ∷
    codes "}" ∷ [])

-- how many records the list of a function has
abbrev pub count_of : ℕ → ℕ
count_of k = 5 + k % 4

-- the key of its first record
abbrev pub first_key : ℕ → ℕ
first_key k = 37 * k + 11

-- the function of number k: it makes a list of records, reverses it, and sums what the records give
unfoldable pub work_part : ℕ → List ℕ
work_part k =
    line_with (codes "long work") k (codes "(void) {") ++
    (text (
    codes "    struct Rec *head = 0;" ∷
    codes "    struct Rec *r;" ∷
    codes "    long sum = 0;" ∷
    codes "    int i;" ∷ []) ++
    (line_with (codes "    for (i = 0; i < ") (count_of k) (codes "; i++) {") ++
    (text (
    codes "        r = alloc(sizeof(struct Rec));" ∷
    codes "        made++;" ∷ []) ++
    (line_with (codes "        r->key = ") (first_key k) (codes " + i;") ++
    text (
    codes "        r->name[i] = 65 + i;" ∷
    codes "        r->next = head;" ∷
    codes "        head = r;" ∷
    codes "    }" ∷
    codes "    head = reverse(head);" ∷
    codes "    for (r = head; r != 0; r = r->next) {" ∷
    codes "        sum = sum + r->key + each(tally, r);" ∷
    codes "    }" ∷
    codes "    return sum;" ∷
    codes "}" ∷ [])))))

-- the line that adds what the function of number k gives
unfoldable pub total_line : ℕ → List ℕ
total_line k = line_with (codes "    total = total + work") k (codes "();")

-- what stands before these lines
unfoldable pub main_front : List ℕ
main_front = text (
    codes "int main(void) {" ∷
    codes "    long total = 0;" ∷ [])

-- and behind them
unfoldable pub main_rest : List ℕ
main_rest = text (
    codes "    print(total);" ∷
    codes "    print(made);" ∷
    codes "    return 0;" ∷
    codes "}" ∷ [])

-- the parts of the numbers below n, in turn
abbrev pub for_each_below : ℕ → (ℕ → List ℕ) → List ℕ
for_each_below zero part = []
for_each_below (suc k) part = for_each_below k part ++ part k

-- the program with n functions that work
abbrev pub program_of : ℕ → List ℕ
program_of n = shared_part ++ (for_each_below n work_part ++ (main_front ++ (for_each_below n total_line ++ main_rest)))

-- the legacy file that it is linked with: a function that passes its call on, the bounds of its second argument as those of the first
unfoldable pub legacy_text : List ℕ
legacy_text = text (
    codes "each:" ∷
    codes "mov rax, rdi" ∷
    codes "mov rdi, rsi" ∷
    codes "bndmov bnd0, bnd1" ∷
    codes "bnd call rax" ∷
    codes "bnd ret" ∷ [])
