-- The words of a line are read as a command exactly where the grammar says that they are it, and else as their fault.
use Rattle.std.proofs.Common.{◌≡◌, ◌≢◌, ℕ, suc, Bool, true, false, cond, List, [], ◌∷◌, ◌++◌, Option, Some, None, Result, Ok, Err, MatchResult, length, codes, bytes_eq, ◌⊎◌, inl, inr, refl, sym, ap, subst, ◌∙◌, arith}
use Rattle.hex.specs.declared.error.FromHexError.{FromHexError}
use Rattle.hex.specs.Hex.{decode_sized}
use Rattle.trace_text.specs.declared.trace.Command.{Command}
use Rattle.trace_text.specs.declared.trace.Command.TheVariants.{Malloc, Free, Copy, SetAddr, Narrow, AndPerm, StoreCap, LoadCap, Write, Show, Sweep, Begin, End}
use Rattle.trace_text.specs.declared.fault.LineFault.{LineFault}
use Rattle.trace_text.specs.declared.fault.LineFault.TheVariants as line_fault
use Rattle.trace_text.specs.Grammar.{FirstLacks, Form, Register, Number, Mask, Data, HasFault, HasForm, HaveForms, IsCommand, IsData, IsMask, IsNumber, IsRegister, form_fault, forms_of}
use Rattle.trace_text.specs.Reading.{◌>>=◌, below_limit, command_of, data_from, data_in, mask_in, none_of, number_in, number_of, one_of, register_in, register_of, three_of, two_of}
use Rattle.trace_text.proofs.Operands.{IsMask-read, IsNumber-read, IsRegister-read, limited-IsMask, number_of-IsNumber, register_of-IsRegister, same_bytes}

-- ---- one word

-- what a word of this form stands for, when it does, and how it is read
abbrev Value : Form → Type 0
Value Register = ℕ
Value Number = ℕ
Value Mask = ℕ
Value Data = List ℕ

abbrev StandsFor : (form : Form) → List ℕ → Value form → Type 0
StandsFor Register = IsRegister
StandsFor Number = IsNumber
StandsFor Mask = IsMask
StandsFor Data = IsData

abbrev read_in : (form : Form) → List ℕ → Result (Value form) LineFault
read_in Register = register_in
read_in Number = number_in
read_in Mask = mask_in
read_in Data = data_in

has_form : (form : Form) (word : List ℕ) (value : Value form) → StandsFor form word value → HasForm form word
has_form Register word value is = (value, is)
has_form Number word value is = (value, is)
has_form Mask word value is = (value, is)
has_form Data word value is = (value, is)

-- what is read of a word that has to have this form
abbrev Reads : (form : Form) → List ℕ → Result (Value form) LineFault → Type 0
Reads form word read = MatchResult read (StandsFor form word) (λ fault. (form_fault form ≡ fault) × ¬ HasForm form word)

reads : (form : Form) (word : List ℕ) → Reads form word (read_in form word)
reads Register word = go (register_of word) refl where
  go : (found : Option ℕ) → register_of word ≡ found → Reads Register word (register_in word)
  go (Some register) is = rw is (IsRegister-read word register is)
  go None is = rw is (refl, λ (register, has). let e = register_of-IsRegister word register has in absurd cc)
reads Number word = go (number_of word) refl where
  go : (found : Option ℕ) → number_of word ≡ found → Reads Number word (number_in word)
  go (Some number) is = rw is (IsNumber-read word number is)
  go None is = rw is (refl, λ (number, has). let e = number_of-IsNumber word number has in absurd cc)
reads Mask word = go (below_limit 65536 (number_of word)) refl where
  go : (found : Option ℕ) → below_limit 65536 (number_of word) ≡ found → Reads Mask word (mask_in word)
  go (Some mask) is = rw is (IsMask-read word mask is)
  go None is = rw is (refl, λ (mask, has). let e = limited-IsMask word mask has in absurd cc)
reads Data word = go (decode_sized word 16) refl where
  go : (found : Result (List ℕ) FromHexError) → decode_sized word 16 ≡ found → Reads Data word (data_from found)
  go (Ok bytes) is = is
  go (Err fault) is = (refl, λ (bytes, has). absurd cc)

-- ---- the words after a name

-- the same fault by recursion
abbrev Lacks : List Form → List (List ℕ) → Form → Type 0
Lacks (form ∷ forms) (word ∷ words) lacked = (¬ HasForm form word × (form ≡ lacked)) ⊎ (HasForm form word × Lacks forms words lacked)
Lacks _ _ lacked = ⊥

FirstLacks-from : (forms : List Form) (words : List (List ℕ)) (lacked : Form) → Lacks forms words lacked → FirstLacks forms words lacked
FirstLacks-from [] words lacked h = absurd h
FirstLacks-from (form ∷ forms) [] lacked h = absurd h
FirstLacks-from (form ∷ forms) (word ∷ words) lacked (inl (lacks, same)) =
    record { forms_before = []; forms_after = forms; before = []; word = word; after = words; forms_are = ap (λ f. f ∷ forms) same; words_are = refl; fine = tt; lacks = λ has. lacks (subst (λ f. HasForm f word) (sym same) has) }
FirstLacks-from (form ∷ forms) (word ∷ words) lacked (inr (has, later)) =
    let rest = FirstLacks-from forms words lacked later in
    record { forms_before = form ∷ rest.forms_before; forms_after = rest.forms_after; before = word ∷ rest.before; word = rest.word; after = rest.after; forms_are = ap (λ fs. form ∷ fs) rest.forms_are; words_are = ap (λ ws. word ∷ ws) rest.words_are; fine = (has, rest.fine); lacks = rest.lacks }

Lacks-from : (forms : List Form) (words : List (List ℕ)) (lacked : Form) → FirstLacks forms words lacked → Lacks forms words lacked
Lacks-from forms words lacked h =
    subst (λ fs. Lacks fs words lacked) (sym h.forms_are) (subst (λ ws. Lacks (h.forms_before ++ lacked ∷ h.forms_after) ws lacked) (sym h.words_are) (go h.forms_before h.before h.fine)) where
      go : (fs : List Form) (ws : List (List ℕ)) → HaveForms fs ws → Lacks (fs ++ lacked ∷ h.forms_after) (ws ++ h.word ∷ h.after) lacked
      go [] [] fine = inl (h.lacks, refl)
      go [] (w ∷ ws) fine = absurd fine
      go (f ∷ fs) [] fine = absurd fine
      go (f ∷ fs) (w ∷ ws) (has, fine) = inr (has, go fs ws fine)

one_lacks : (forms : List Form) (words : List (List ℕ)) (f g : Form) → Lacks forms words f → Lacks forms words g → f ≡ g
one_lacks [] words f g a b = absurd a
one_lacks (form ∷ forms) [] f g a b = absurd a
one_lacks (form ∷ forms) (word ∷ words) f g (inl (lacks, is)) (inl (lacks', is')) = sym is ∙ is'
one_lacks (form ∷ forms) (word ∷ words) f g (inl (lacks, is)) (inr (has, later)) = absurd (lacks has)
one_lacks (form ∷ forms) (word ∷ words) f g (inr (has, later)) (inl (lacks, is)) = absurd (lacks has)
one_lacks (form ∷ forms) (word ∷ words) f g (inr (has, later)) (inr (has', later')) = one_lacks forms words f g later later'

none_lacks : (forms : List Form) (words : List (List ℕ)) (f : Form) → HaveForms forms words → Lacks forms words f → ⊥
none_lacks [] words f have lacks = lacks
none_lacks (form ∷ forms) [] f have lacks = lacks
none_lacks (form ∷ forms) (word ∷ words) f (has, have) (inl (lacks, is)) = lacks has
none_lacks (form ∷ forms) (word ∷ words) f (has, have) (inr (has', lacks)) = none_lacks forms words f have lacks

length-HaveForms : (forms : List Form) (words : List (List ℕ)) → HaveForms forms words → length words ≡ length forms
length-HaveForms [] [] have = refl
length-HaveForms [] (word ∷ words) have = absurd have
length-HaveForms (form ∷ forms) [] have = absurd have
length-HaveForms (form ∷ forms) (word ∷ words) (has, have) = ap suc (length-HaveForms forms words have)

-- what is wrong with the words after a name of the table
data WordsFault (forms : List Form) (words : List (List ℕ)) (fault : LineFault) : Type 0 where
  bad_count : length words ≢ length forms → line_fault.BadCount ≡ fault → WordsFault forms words fault
  bad_word : (form : Form) → length words ≡ length forms → FirstLacks forms words form → form_fault form ≡ fault → WordsFault forms words fault

-- the rules of HasFault, as alternatives
data Faults (name : List ℕ) (words : List (List ℕ)) (fault : LineFault) : Type 0 where
  bad_name : forms_of name ≡ None → line_fault.BadCommand ≡ fault → Faults name words fault
  bad_words : (forms : List Form) → forms_of name ≡ Some forms → WordsFault forms words fault → Faults name words fault

Faults-from : (name : List ℕ) (words : List (List ℕ)) (fault : LineFault) → HasFault (name ∷ words) fault → Faults name words fault
Faults-from name words line_fault.BadCommand unknown = bad_name unknown refl
Faults-from name words line_fault.BadCount (forms, known, count) = bad_words forms known (bad_count count refl)
Faults-from name words line_fault.BadRegister (forms, form, known, count, lacks, is) = bad_words forms known (bad_word form count lacks is)
Faults-from name words line_fault.BadNumber (forms, form, known, count, lacks, is) = bad_words forms known (bad_word form count lacks is)
Faults-from name words line_fault.BadData (forms, form, known, count, lacks, is) = bad_words forms known (bad_word form count lacks is)

one_words_fault : (forms : List Form) (words : List (List ℕ)) (f g : LineFault) → WordsFault forms words f → WordsFault forms words g → f ≡ g
one_words_fault forms words f g (bad_count other is) (bad_count other' is') = sym is ∙ is'
one_words_fault forms words f g (bad_count other is) (bad_word form count lacks is') = absurd (other count)
one_words_fault forms words f g (bad_word form count lacks is) (bad_count other is') = absurd (other count)
one_words_fault forms words f g (bad_word form count lacks is) (bad_word form' count' lacks' is') =
    sym is ∙ ap form_fault (one_lacks forms words form form' (Lacks-from forms words form lacks) (Lacks-from forms words form' lacks')) ∙ is'

one_fault : (name : List ℕ) (words : List (List ℕ)) (f g : LineFault) → HasFault (name ∷ words) f → HasFault (name ∷ words) g → f ≡ g
one_fault name words f g a b = go (Faults-from name words f a) (Faults-from name words g b) where
  go : Faults name words f → Faults name words g → f ≡ g
  go (bad_name unknown is) (bad_name unknown' is') = sym is ∙ is'
  go (bad_name unknown is) (bad_words forms known bad) = absurd cc
  go (bad_words forms known bad) (bad_name unknown is) = absurd cc
  go (bad_words forms known bad) (bad_words forms' known' bad') =
      let same : forms ≡ forms' = cc in
      one_words_fault forms' words f g (subst (λ fs. WordsFault fs words f) same bad) bad'

-- ---- the words of a command

-- the table has the name, and the words after it are of its forms
record HasRow (name : List ℕ) (words : List (List ℕ)) : Type 0 where
  forms : List Form
  known : forms_of name ≡ Some forms
  have : HaveForms forms words

abbrev Fits : List (List ℕ) → Type 0
Fits [] = ⊥
Fits (name ∷ words) = HasRow name words

fits : {name : List ℕ} {words : List (List ℕ)} (all : List (List ℕ)) (forms : List Form) → all ≡ name ∷ words → forms_of name ≡ Some forms → HaveForms forms words → Fits all
fits all forms all_are known have = subst Fits (sym all_are) (record { forms = forms; known = known; have = have })

IsCommand-fits : (words : List (List ℕ)) (command : Command) → IsCommand words command → Fits words
IsCommand-fits words (Malloc rd size) (_, _, words_are, is_rd, is_size) = fits words _ words_are refl ((rd, is_rd), ((size, is_size), tt))
IsCommand-fits words (Free rs) (_, words_are, is_rs) = fits words _ words_are refl ((rs, is_rs), tt)
IsCommand-fits words (Copy rd rs) (_, _, words_are, is_rd, is_rs) = fits words _ words_are refl ((rd, is_rd), ((rs, is_rs), tt))
IsCommand-fits words (SetAddr rd rs address) (_, _, _, words_are, is_rd, is_rs, is_address) = fits words _ words_are refl ((rd, is_rd), ((rs, is_rs), ((address, is_address), tt)))
IsCommand-fits words (Narrow rd rs length) (_, _, _, words_are, is_rd, is_rs, is_length) = fits words _ words_are refl ((rd, is_rd), ((rs, is_rs), ((length, is_length), tt)))
IsCommand-fits words (AndPerm rd rs mask) (_, _, _, words_are, is_rd, is_rs, is_mask) = fits words _ words_are refl ((rd, is_rd), ((rs, is_rs), ((mask, is_mask), tt)))
IsCommand-fits words (StoreCap ra rs) (_, _, words_are, is_ra, is_rs) = fits words _ words_are refl ((ra, is_ra), ((rs, is_rs), tt))
IsCommand-fits words (LoadCap rd ra) (_, _, words_are, is_rd, is_ra) = fits words _ words_are refl ((rd, is_rd), ((ra, is_ra), tt))
IsCommand-fits words (Write ra bytes) (_, _, words_are, is_ra, is_bytes) = fits words _ words_are refl ((ra, is_ra), ((bytes, is_bytes), tt))
IsCommand-fits words (Show rs) (_, words_are, is_rs) = fits words _ words_are refl ((rs, is_rs), tt)
IsCommand-fits words Sweep words_are = fits words _ words_are refl tt
IsCommand-fits words Begin words_are = fits words _ words_are refl tt
IsCommand-fits words End words_are = fits words _ words_are refl tt

no_fault : (name : List ℕ) (words : List (List ℕ)) (fault : LineFault) → Fits (name ∷ words) → HasFault (name ∷ words) fault → ⊥
no_fault name words fault row h = go (Faults-from name words fault h) where
  words_go : WordsFault row.forms words fault → ⊥
  words_go (bad_count other is) = other (length-HaveForms row.forms words row.have)
  words_go (bad_word form count lacks is) = none_lacks row.forms words form row.have (Lacks-from row.forms words form lacks)

  go : Faults name words fault → ⊥
  go (bad_name unknown is) = let known = row.known in cc
  go (bad_words forms known bad) =
      let same : forms ≡ row.forms = (let known' = row.known in cc) in
      words_go (subst (λ fs. WordsFault fs words fault) same bad)

-- ---- a line

-- what the words of a line are read as
abbrev pub Read : List (List ℕ) → Result Command LineFault → Type 0
Read words read = MatchResult read (IsCommand words) (HasFault words)

-- the fault of the first word that lacks its form
lacks_form : (name : List ℕ) (forms : List Form) (words : List (List ℕ)) (form : Form) (fault : LineFault) → forms_of name ≡ Some forms → length words ≡ length forms
    → form_fault form ≡ fault → Lacks forms words form → HasFault (name ∷ words) fault
lacks_form name forms words form fault known count is lacks = subst (HasFault (name ∷ words)) is (go form (FirstLacks-from forms words form lacks)) where
  go : (form : Form) → FirstLacks forms words form → HasFault (name ∷ words) (form_fault form)
  go Register lacks = (forms, Register, known, count, lacks, refl)
  go form lacks = (forms, form, known, count, lacks, refl)

none_read : (name : List ℕ) → forms_of name ≡ Some [] → (command : Command) → IsCommand (name ∷ []) command
    → (words : List (List ℕ)) → Read (name ∷ words) (none_of words >>= λ _. Ok command)
unfolding none_of
none_read name known command built [] = built
none_read name known command built (a ∷ ws) = ([], known, λ e. omega arith)

one_read : (name : List ℕ) (form : Form) → forms_of name ≡ Some (form ∷ []) → (build : Value form → Command)
    → ((a : List ℕ) (x : Value form) → StandsFor form a x → IsCommand (name ∷ a ∷ []) (build x))
    → (words : List (List ℕ)) → Read (name ∷ words) (one_of (read_in form) words >>= λ x. Ok (build x))
unfolding one_of
one_read name form known build built (a ∷ []) = go (read_in form a) (reads form a) where
  go : (r : Result (Value form) LineFault) → Reads form a r → Read (name ∷ a ∷ []) (r >>= λ x. Ok (build x))
  go (Ok x) is = built a x is
  go (Err fault) (is, lacks) = lacks_form name (form ∷ []) (a ∷ []) form fault known refl is (inl (lacks, refl))
one_read name form known build built words = (form ∷ [], known, λ e. omega arith)

abbrev paired : {A B : Type 0} → Result A LineFault → Result B LineFault → Result (A × B) LineFault
paired first second = first >>= λ x. second >>= λ y. Ok (x, y)

two_read : (name : List ℕ) (f g : Form) → forms_of name ≡ Some (f ∷ g ∷ []) → (build : Value f → Value g → Command)
    → ((a b : List ℕ) (x : Value f) (y : Value g) → StandsFor f a x → StandsFor g b y → IsCommand (name ∷ a ∷ b ∷ []) (build x y))
    → (words : List (List ℕ)) → Read (name ∷ words) (two_of (read_in f) (read_in g) words >>= λ read. Ok (build read.0 read.1))
unfolding two_of
two_read name f g known build built (a ∷ b ∷ []) = go (read_in f a) (read_in g b) (reads f a) (reads g b) where
  lacking : (form : Form) (fault : LineFault) → form_fault form ≡ fault → Lacks (f ∷ g ∷ []) (a ∷ b ∷ []) form → HasFault (name ∷ a ∷ b ∷ []) fault
  lacking form fault = lacks_form name (f ∷ g ∷ []) (a ∷ b ∷ []) form fault known refl

  go : (r : Result (Value f) LineFault) (s : Result (Value g) LineFault) → Reads f a r → Reads g b s → Read (name ∷ a ∷ b ∷ []) (paired r s >>= λ read. Ok (build read.0 read.1))
  go (Ok x) (Ok y) is is' = built a b x y is is'
  go (Ok x) (Err fault) is (bad, lacks) = lacking g fault bad (inr (has_form f a x is, inl (lacks, refl)))
  go (Err fault) s (bad, lacks) others = lacking f fault bad (inl (lacks, refl))
two_read name f g known build built words = (f ∷ g ∷ [], known, λ e. omega arith)

abbrev tripled : {A B C : Type 0} → Result A LineFault → Result B LineFault → Result C LineFault → Result (A × B × C) LineFault
tripled first second third = first >>= λ x. second >>= λ y. third >>= λ z. Ok (x, y, z)

three_read : (name : List ℕ) (f g h : Form) → forms_of name ≡ Some (f ∷ g ∷ h ∷ []) → (build : Value f → Value g → Value h → Command)
    → ((a b c : List ℕ) (x : Value f) (y : Value g) (z : Value h) → StandsFor f a x → StandsFor g b y → StandsFor h c z → IsCommand (name ∷ a ∷ b ∷ c ∷ []) (build x y z))
    → (words : List (List ℕ)) → Read (name ∷ words) (three_of (read_in f) (read_in g) (read_in h) words >>= λ read. Ok (build read.0 read.1 read.2))
unfolding three_of
three_read name f g h known build built (a ∷ b ∷ c ∷ []) = go (read_in f a) (read_in g b) (read_in h c) (reads f a) (reads g b) (reads h c) where
  lacking : (form : Form) (fault : LineFault) → form_fault form ≡ fault → Lacks (f ∷ g ∷ h ∷ []) (a ∷ b ∷ c ∷ []) form → HasFault (name ∷ a ∷ b ∷ c ∷ []) fault
  lacking form fault = lacks_form name (f ∷ g ∷ h ∷ []) (a ∷ b ∷ c ∷ []) form fault known refl

  go : (r : Result (Value f) LineFault) (s : Result (Value g) LineFault) (t : Result (Value h) LineFault) → Reads f a r → Reads g b s → Reads h c t
      → Read (name ∷ a ∷ b ∷ c ∷ []) (tripled r s t >>= λ read. Ok (build read.0 read.1 read.2))
  go (Ok x) (Ok y) (Ok z) is is' is'' = built a b c x y z is is' is''
  go (Ok x) (Ok y) (Err fault) is is' (bad, lacks) = lacking h fault bad (inr (has_form f a x is, inr (has_form g b y is', inl (lacks, refl))))
  go (Ok x) (Err fault) t is (bad, lacks) others = lacking g fault bad (inr (has_form f a x is, inl (lacks, refl)))
  go (Err fault) s t (bad, lacks) others others' = lacking f fault bad (inl (lacks, refl))
three_read name f g h known build built words = (f ∷ g ∷ h ∷ [], known, λ e. omega arith)

-- a name that is this word or another
named : (word name : List ℕ) (words : List (List ℕ)) (this other : Result Command LineFault) → Read (word ∷ words) this → (bytes_eq name word ≡ false → Read (name ∷ words) other)
    → Read (name ∷ words) (cond (bytes_eq name word) this other)
named word name words this other if_this if_other = go (bytes_eq name word) refl where
  go : (t : Bool) → bytes_eq name word ≡ t → Read (name ∷ words) (cond t this other)
  go true is = subst (λ w. Read (w ∷ words) this) (sym (same_bytes name word is)) if_this
  go false is = if_other is

pub command_read : (name : List ℕ) (words : List (List ℕ)) → Read (name ∷ words) (command_of (name ∷ words))
unfolding command_of
command_read name words =
    named (codes "malloc") name words _ _ (two_read (codes "malloc") Register Number refl Malloc (λ a b x y is is'. (a, b, refl, is, is')) words) (λ malloc.
    named (codes "free") name words _ _ (one_read (codes "free") Register refl Free (λ a x is. (a, refl, is)) words) (λ free.
    named (codes "copy") name words _ _ (two_read (codes "copy") Register Register refl Copy (λ a b x y is is'. (a, b, refl, is, is')) words) (λ copy.
    named (codes "setaddr") name words _ _ (three_read (codes "setaddr") Register Register Number refl SetAddr (λ a b c x y z is is' is''. (a, b, c, refl, is, is', is'')) words) (λ setaddr.
    named (codes "narrow") name words _ _ (three_read (codes "narrow") Register Register Number refl Narrow (λ a b c x y z is is' is''. (a, b, c, refl, is, is', is'')) words) (λ narrow.
    named (codes "andperm") name words _ _ (three_read (codes "andperm") Register Register Mask refl AndPerm (λ a b c x y z is is' is''. (a, b, c, refl, is, is', is'')) words) (λ andperm.
    named (codes "storecap") name words _ _ (two_read (codes "storecap") Register Register refl StoreCap (λ a b x y is is'. (a, b, refl, is, is')) words) (λ storecap.
    named (codes "loadcap") name words _ _ (two_read (codes "loadcap") Register Register refl LoadCap (λ a b x y is is'. (a, b, refl, is, is')) words) (λ loadcap.
    named (codes "write") name words _ _ (two_read (codes "write") Register Data refl Write (λ a b x y is is'. (a, b, refl, is, is')) words) (λ write.
    named (codes "show") name words _ _ (one_read (codes "show") Register refl Show (λ a x is. (a, refl, is)) words) (λ show.
    named (codes "sweep") name words _ _ (none_read (codes "sweep") refl Sweep refl words) (λ sweep.
    named (codes "begin") name words _ _ (none_read (codes "begin") refl Begin refl words) (λ begin.
    named (codes "end") name words _ _ (none_read (codes "end") refl End refl words) (λ last.
    rw (malloc, free, copy, setaddr, narrow, andperm, storecap, loadcap, write, show, sweep, begin, last) refl)))))))))))))

-- ---- the laws

pub command_of-IsCommand : (words : List (List ℕ)) (command : Command) → IsCommand words command → command_of words ≡ Ok command
unfolding command_of none_of one_of two_of three_of
command_of-IsCommand words (Malloc rd size) (a, b, words_are, is_rd, is_size) = rw (words_are, register_of-IsRegister a rd is_rd, number_of-IsNumber b size is_size) refl
command_of-IsCommand words (Free rs) (a, words_are, is_rs) = rw (words_are, register_of-IsRegister a rs is_rs) refl
command_of-IsCommand words (Copy rd rs) (a, b, words_are, is_rd, is_rs) = rw (words_are, register_of-IsRegister a rd is_rd, register_of-IsRegister b rs is_rs) refl
command_of-IsCommand words (SetAddr rd rs address) (a, b, c, words_are, is_rd, is_rs, is_address) = rw (words_are, register_of-IsRegister a rd is_rd, register_of-IsRegister b rs is_rs, number_of-IsNumber c address is_address) refl
command_of-IsCommand words (Narrow rd rs length) (a, b, c, words_are, is_rd, is_rs, is_length) = rw (words_are, register_of-IsRegister a rd is_rd, register_of-IsRegister b rs is_rs, number_of-IsNumber c length is_length) refl
command_of-IsCommand words (AndPerm rd rs mask) (a, b, c, words_are, is_rd, is_rs, is_mask) = rw (words_are, register_of-IsRegister a rd is_rd, register_of-IsRegister b rs is_rs, limited-IsMask c mask is_mask) refl
command_of-IsCommand words (StoreCap ra rs) (a, b, words_are, is_ra, is_rs) = rw (words_are, register_of-IsRegister a ra is_ra, register_of-IsRegister b rs is_rs) refl
command_of-IsCommand words (LoadCap rd ra) (a, b, words_are, is_rd, is_ra) = rw (words_are, register_of-IsRegister a rd is_rd, register_of-IsRegister b ra is_ra) refl
command_of-IsCommand words (Write ra bytes) (a, b, words_are, is_ra, is_bytes) = rw (words_are, register_of-IsRegister a ra is_ra, is_bytes) refl
command_of-IsCommand words (Show rs) (a, words_are, is_rs) = rw (words_are, register_of-IsRegister a rs is_rs) refl
command_of-IsCommand words Sweep words_are = rw words_are refl
command_of-IsCommand words Begin words_are = rw words_are refl
command_of-IsCommand words End words_are = rw words_are refl

pub IsCommand-read : (words : List (List ℕ)) (command : Command) → command_of words ≡ Ok command → IsCommand words command
unfolding command_of
IsCommand-read [] command e = absurd cc
IsCommand-read (name ∷ words) command e = let read = command_read name words in subst (Read (name ∷ words)) e read

pub HasFault-read : (name : List ℕ) (words : List (List ℕ)) (fault : LineFault) → command_of (name ∷ words) ≡ Err fault → HasFault (name ∷ words) fault
HasFault-read name words fault e = let read = command_read name words in subst (Read (name ∷ words)) e read

pub command_of-HasFault : (name : List ℕ) (words : List (List ℕ)) (fault : LineFault) → HasFault (name ∷ words) fault → command_of (name ∷ words) ≡ Err fault
command_of-HasFault name words fault h = go (command_of (name ∷ words)) (command_read name words) where
  go : (read : Result Command LineFault) → Read (name ∷ words) read → read ≡ Err fault
  go (Ok command) is = absurd (no_fault name words fault (IsCommand-fits (name ∷ words) command is) h)
  go (Err other) is = ap Err (one_fault name words other fault is h)
