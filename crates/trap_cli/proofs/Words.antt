-- The words of a command.
use Rattle.std.proofs.Common.{◌≡◌, ℕ, zero, suc, ◌-◌, List, [], ◌∷◌, length, get_or, map, take, drop, Option, Some, None, Bool, true, false, cond, not, refl, sym, ap, ap₂, ◌∙◌, arith}
use Rattle.std.specs.Prelude.{string_bytes, String, nat_eq}
use Rattle.std.proofs.lemmas.List.{length-map}
use Rattle.std.specs.declared.alloc.Global.{Global}
use Rattle.trap_script.specs.Numbers.{number_of}
use Rattle.trap_cli.specs.declared.command.Command.{Command}
use Rattle.trap_cli.specs.declared.command.Command.TheVariants.{Create, Session, History, Send}
use Rattle.trap_cli.specs.declared.command.Command.TheVariants.{ReplicaCreate, ReplicaLoad}
use Rattle.trap_cli.specs.declared.command.Command.TheVariants.{Apply, ReplicaExport}
use Rattle.trap_cli.specs.Command.{IsCommand, Spells, AreWords, AreNumbers, name_of, numbers_in}

pub one_word : (words : List (String Global)) (word : String Global) → length words ≡ 1 → word ≡ get_or words 0 word → words ≡ word ∷ []
one_word [] word one first = absurd (omega (arith, one))
one_word (w ∷ []) word one first = ap (λ (x : String Global). x ∷ []) (sym first)
one_word (w ∷ v ∷ words) word one first = absurd (omega (arith, one))

pub two_words : (words : List (String Global)) (w0 w1 : String Global) → length words ≡ 2 → w0 ≡ get_or words 0 w0 → w1 ≡ get_or words 1 w1 → words ≡ w0 ∷ w1 ∷ []
two_words [] w0 w1 two e0 e1 = absurd (omega (arith, two))
two_words (x0 ∷ []) w0 w1 two e0 e1 = absurd (omega (arith, two))
two_words (x0 ∷ x1 ∷ []) w0 w1 two e0 e1 = cc
two_words (x0 ∷ x1 ∷ x2 ∷ words) w0 w1 two e0 e1 = absurd (omega (arith, two))

pub three_words : (words : List (String Global)) (w0 w1 w2 : String Global) → length words ≡ 3 → w0 ≡ get_or words 0 w0 → w1 ≡ get_or words 1 w1 → w2 ≡ get_or words 2 w2
    → words ≡ w0 ∷ w1 ∷ w2 ∷ []
three_words [] w0 w1 w2 three e0 e1 e2 = absurd (omega (arith, three))
three_words (x0 ∷ []) w0 w1 w2 three e0 e1 e2 = absurd (omega (arith, three))
three_words (x0 ∷ x1 ∷ []) w0 w1 w2 three e0 e1 e2 = absurd (omega (arith, three))
three_words (x0 ∷ x1 ∷ x2 ∷ []) w0 w1 w2 three e0 e1 e2 = cc
three_words (x0 ∷ x1 ∷ x2 ∷ x3 ∷ words) w0 w1 w2 three e0 e1 e2 = absurd (omega (arith, three))

pub five_words : (words : List (String Global)) (w0 w1 w2 w3 w4 : String Global) → length words ≡ 5 → w0 ≡ get_or words 0 w0 → w1 ≡ get_or words 1 w1
    → w2 ≡ get_or words 2 w2 → w3 ≡ get_or words 3 w3 → w4 ≡ get_or words 4 w4 → words ≡ w0 ∷ w1 ∷ w2 ∷ w3 ∷ w4 ∷ []
five_words [] w0 w1 w2 w3 w4 five e0 e1 e2 e3 e4 = absurd (omega (arith, five))
five_words (x0 ∷ []) w0 w1 w2 w3 w4 five e0 e1 e2 e3 e4 = absurd (omega (arith, five))
five_words (x0 ∷ x1 ∷ []) w0 w1 w2 w3 w4 five e0 e1 e2 e3 e4 = absurd (omega (arith, five))
five_words (x0 ∷ x1 ∷ x2 ∷ []) w0 w1 w2 w3 w4 five e0 e1 e2 e3 e4 = absurd (omega (arith, five))
five_words (x0 ∷ x1 ∷ x2 ∷ x3 ∷ []) w0 w1 w2 w3 w4 five e0 e1 e2 e3 e4 = absurd (omega (arith, five))
five_words (x0 ∷ x1 ∷ x2 ∷ x3 ∷ x4 ∷ []) w0 w1 w2 w3 w4 five e0 e1 e2 e3 e4 = cc
five_words (x0 ∷ x1 ∷ x2 ∷ x3 ∷ x4 ∷ x5 ∷ words) w0 w1 w2 w3 w4 five e0 e1 e2 e3 e4 = absurd (omega (arith, five))

-- what isn't unequal is equal
pub not_other : (b : Bool) → not b ≡ false → b ≡ true
not_other true is = refl
not_other false is = absurd (cc is)

take_all : (words : List (String Global)) (n : ℕ) → n ≡ length words → take n words ≡ words
take_all [] zero all = refl
take_all [] (suc n) all = absurd (omega (arith, all))
take_all (w ∷ words) zero all = absurd (omega (arith, all))
take_all (w ∷ words) (suc n) all = ap (λ (rest : List (String Global)). w ∷ rest) (take_all words n (omega (arith, all)))

-- the first word and those after it
pub first_word : (words : List (String Global)) (word : String Global) (count : ℕ) → length words ≡ suc count → word ≡ get_or words 0 word
    → words ≡ word ∷ take (length words - 1) (drop 1 words)
first_word [] word count some first = absurd (omega (arith, some))
first_word (w ∷ words) word count some first =
    ap (λ (x : String Global). x ∷ words) (sym first)
    ∙ ap (λ (rest : List (String Global)). word ∷ rest) (sym (take_all words (length (w ∷ words) - 1) (omega arith)))

-- the list of numbers that are in some
same_somes : (xs ys : List ℕ) → map Some xs ≡ map Some ys → xs ≡ ys
same_somes [] [] both = refl
same_somes [] (y ∷ ys) both = absurd (cc both)
same_somes (x ∷ xs) [] both = absurd (cc both)
same_somes (x ∷ xs) (y ∷ ys) both =
    let head : x ≡ y = cc in
    let tail : map Some xs ≡ map Some ys = cc in
    ap₂ {A = ℕ} {B = List ℕ} {C = List ℕ} (λ (n : ℕ) (ns : List ℕ). n ∷ ns) head (same_somes xs ys tail)

-- words have one name, and one list of numbers after it
same_name : (words : List (String Global)) (n m : List ℕ) (xs ys : List ℕ) → AreWords n xs words → AreWords m ys words → n ≡ m
same_name words n m xs ys is are =
    let both : is.first ∷ is.others ≡ are.first ∷ are.others = sym is.parts ∙ are.parts in
    let first : is.first ≡ are.first = cc in
    sym is.named ∙ ap string_bytes first ∙ are.named

same_numbers : (words : List (String Global)) (n m : List ℕ) (xs ys : List ℕ) → AreWords n xs words → AreWords m ys words → xs ≡ ys
same_numbers words n m xs ys is are =
    let both : is.first ∷ is.others ≡ are.first ∷ are.others = sym is.parts ∙ are.parts in
    let others : is.others ≡ are.others = cc in
    same_somes xs ys (sym is.counted ∙ ap (map (λ (word : String Global). number_of (string_bytes word))) others ∙ are.counted)

-- the command without numbers whose name has this length and begins with this byte
abbrev plain_command : ℕ → ℕ → Option Command
plain_command len byte = cond (nat_eq len 5) (Some Apply) (cond (nat_eq len 14) (Some ReplicaExport) (cond (nat_eq byte 115) (Some Session) (Some History)))

-- the command of a name and numbers that are one's
abbrev command_from : List ℕ → List ℕ → Option Command
command_from name [] = plain_command (length name) (get_or name 0 0)
command_from name (seq ∷ []) = Some (Send seq)
command_from name (id ∷ block ∷ volume ∷ []) = Some (ReplicaCreate (record { id = id; block = block; volume = volume }))
command_from name (id ∷ block ∷ volume ∷ seq ∷ time ∷ []) =
    Some (ReplicaLoad (record { id = id; block = block; volume = volume }) (record { seq = seq; time = time }))
command_from name (id ∷ members ∷ chunk ∷ block ∷ rows ∷ slots ∷ gap ∷ entries ∷ ring ∷ []) =
    Some (Create (record { id = id; members = members; chunk = chunk; block = block; rows = rows; slots = slots; gap = gap; entries = entries; ring = ring }))
command_from name others = None

from_own : (command : Command) → command_from (name_of command) (numbers_in command) ≡ Some command
from_own (Create asked) = refl
from_own Session = refl
from_own History = refl
from_own (Send seq) = refl
from_own (ReplicaCreate asked) = refl
from_own (ReplicaLoad asked start) = refl
from_own Apply = refl
from_own ReplicaExport = refl

same_command : (words : List (String Global)) (command other : Command) → Spells words command → Spells words other → command ≡ other
same_command words command other is are =
    let both : Some command ≡ Some other = sym (from_own command)
    ∙ ap₂ command_from (same_name words _ _ _ _ is are) (same_numbers words _ _ _ _ is are) ∙ from_own other in
    cc

-- the words are one command
pub one_command : (words : List (String Global)) (command other : Option Command) → IsCommand command words → IsCommand other words → command ≡ other
one_command words (Some command) (Some other) is are = ap (λ (command : Command). Some command) (same_command words command other is are)
one_command words (Some command) None is are = absurd (are command is)
one_command words None (Some other) is are = absurd (is other are)
one_command words None None is are = refl

-- how many words a command has
pub word_count : (words : List (String Global)) (name numbers : List ℕ) → AreWords name numbers words → length words ≡ suc (length numbers)
word_count words name numbers are =
    let same : length are.others ≡ length numbers = sym (length-map are.others (λ (word : String Global). number_of (string_bytes word)))
    ∙ ap (λ (l : List (Option ℕ)). length l) are.counted ∙ length-map numbers (λ (n : ℕ). Some n) in
    ap (λ (l : List (String Global)). length l) are.parts ∙ omega (arith, same)

-- the first of them is its name
pub word_name : (words : List (String Global)) (word : String Global) (name numbers : List ℕ) → word ≡ get_or words 0 word → AreWords name numbers words → string_bytes word ≡ name
word_name words word name numbers first are =
    ap string_bytes (first ∙ ap (λ (l : List (String Global)). get_or l 0 word) are.parts) ∙ are.named

-- and those after it its numbers
pub word_numbers : (words others : List (String Global)) (word : String Global) (name numbers : List ℕ) → words ≡ word ∷ others → AreWords name numbers words → AreNumbers others numbers
word_numbers words others word name numbers parts are =
    let both : word ∷ others ≡ are.first ∷ are.others = sym parts ∙ are.parts in
    let same : others ≡ are.others = cc in
    ap (map (λ (word : String Global). number_of (string_bytes word))) same ∙ are.counted

-- a word that is not the name of a command
pub other_name : (words : List (String Global)) (word : String Global) (bytes name numbers : List ℕ) → word ≡ get_or words 0 word → bytes ≡ string_bytes word
    → (bytes ≡ name → ⊥) → AreWords name numbers words → ⊥
other_name words word bytes name numbers first value other are = other (value ∙ word_name words word name numbers first are)

-- nine words, each a number
pub nine_words : (words : List (String Global)) (w0 w1 w2 w3 w4 w5 w6 w7 w8 : String Global) → length words ≡ 9
    → w0 ≡ get_or words 0 w0 → w1 ≡ get_or words 1 w1 → w2 ≡ get_or words 2 w2 → w3 ≡ get_or words 3 w3 → w4 ≡ get_or words 4 w4
    → w5 ≡ get_or words 5 w5 → w6 ≡ get_or words 6 w6 → w7 ≡ get_or words 7 w7 → w8 ≡ get_or words 8 w8
    → words ≡ w0 ∷ w1 ∷ w2 ∷ w3 ∷ w4 ∷ w5 ∷ w6 ∷ w7 ∷ w8 ∷ []
nine_words (x0 ∷ x1 ∷ x2 ∷ x3 ∷ x4 ∷ x5 ∷ x6 ∷ x7 ∷ x8 ∷ []) w0 w1 w2 w3 w4 w5 w6 w7 w8 nine e0 e1 e2 e3 e4 e5 e6 e7 e8 = cc
nine_words (x0 ∷ x1 ∷ x2 ∷ x3 ∷ x4 ∷ x5 ∷ x6 ∷ x7 ∷ x8 ∷ x9 ∷ words) w0 w1 w2 w3 w4 w5 w6 w7 w8 nine e0 e1 e2 e3 e4 e5 e6 e7 e8 = absurd (omega (arith, nine))
nine_words [] w0 w1 w2 w3 w4 w5 w6 w7 w8 nine e0 e1 e2 e3 e4 e5 e6 e7 e8 = absurd (omega (arith, nine))
nine_words (x0 ∷ []) w0 w1 w2 w3 w4 w5 w6 w7 w8 nine e0 e1 e2 e3 e4 e5 e6 e7 e8 = absurd (omega (arith, nine))
nine_words (x0 ∷ x1 ∷ []) w0 w1 w2 w3 w4 w5 w6 w7 w8 nine e0 e1 e2 e3 e4 e5 e6 e7 e8 = absurd (omega (arith, nine))
nine_words (x0 ∷ x1 ∷ x2 ∷ []) w0 w1 w2 w3 w4 w5 w6 w7 w8 nine e0 e1 e2 e3 e4 e5 e6 e7 e8 = absurd (omega (arith, nine))
nine_words (x0 ∷ x1 ∷ x2 ∷ x3 ∷ []) w0 w1 w2 w3 w4 w5 w6 w7 w8 nine e0 e1 e2 e3 e4 e5 e6 e7 e8 = absurd (omega (arith, nine))
nine_words (x0 ∷ x1 ∷ x2 ∷ x3 ∷ x4 ∷ []) w0 w1 w2 w3 w4 w5 w6 w7 w8 nine e0 e1 e2 e3 e4 e5 e6 e7 e8 = absurd (omega (arith, nine))
nine_words (x0 ∷ x1 ∷ x2 ∷ x3 ∷ x4 ∷ x5 ∷ []) w0 w1 w2 w3 w4 w5 w6 w7 w8 nine e0 e1 e2 e3 e4 e5 e6 e7 e8 = absurd (omega (arith, nine))
nine_words (x0 ∷ x1 ∷ x2 ∷ x3 ∷ x4 ∷ x5 ∷ x6 ∷ []) w0 w1 w2 w3 w4 w5 w6 w7 w8 nine e0 e1 e2 e3 e4 e5 e6 e7 e8 = absurd (omega (arith, nine))
nine_words (x0 ∷ x1 ∷ x2 ∷ x3 ∷ x4 ∷ x5 ∷ x6 ∷ x7 ∷ []) w0 w1 w2 w3 w4 w5 w6 w7 w8 nine e0 e1 e2 e3 e4 e5 e6 e7 e8 = absurd (omega (arith, nine))

-- a word that was read is its number
pub word_read : (word : String Global) (bytes : List ℕ) (read : Option ℕ) (n : ℕ) → bytes ≡ string_bytes word → read ≡ number_of bytes → read ≡ Some n
    → number_of (string_bytes word) ≡ Some n
word_read word bytes read n value is was = ap number_of (sym value) ∙ sym is ∙ was

pub nine_read : (a0 a1 a2 a3 a4 a5 a6 a7 a8 b0 b1 b2 b3 b4 b5 b6 b7 b8 : Option ℕ) → a0 ≡ b0 → a1 ≡ b1 → a2 ≡ b2 → a3 ≡ b3 → a4 ≡ b4
    → a5 ≡ b5 → a6 ≡ b6 → a7 ≡ b7 → a8 ≡ b8
    → ◌≡◌ {A = List (Option ℕ)} (a0 ∷ a1 ∷ a2 ∷ a3 ∷ a4 ∷ a5 ∷ a6 ∷ a7 ∷ a8 ∷ []) (b0 ∷ b1 ∷ b2 ∷ b3 ∷ b4 ∷ b5 ∷ b6 ∷ b7 ∷ b8 ∷ [])
nine_read a0 a1 a2 a3 a4 a5 a6 a7 a8 b0 b1 b2 b3 b4 b5 b6 b7 b8 e0 e1 e2 e3 e4 e5 e6 e7 e8 = cc

pub three_read : (a0 a1 a2 b0 b1 b2 : Option ℕ) → a0 ≡ b0 → a1 ≡ b1 → a2 ≡ b2 → ◌≡◌ {A = List (Option ℕ)} (a0 ∷ a1 ∷ a2 ∷ []) (b0 ∷ b1 ∷ b2 ∷ [])
three_read a0 a1 a2 b0 b1 b2 e0 e1 e2 = cc

pub five_read : (a0 a1 a2 a3 a4 b0 b1 b2 b3 b4 : Option ℕ) → a0 ≡ b0 → a1 ≡ b1 → a2 ≡ b2 → a3 ≡ b3 → a4 ≡ b4
    → ◌≡◌ {A = List (Option ℕ)} (a0 ∷ a1 ∷ a2 ∷ a3 ∷ a4 ∷ []) (b0 ∷ b1 ∷ b2 ∷ b3 ∷ b4 ∷ [])
five_read a0 a1 a2 a3 a4 b0 b1 b2 b3 b4 e0 e1 e2 e3 e4 = cc
