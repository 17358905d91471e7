-- Lists of a revoker's steps: what visits of pages, and untags of granules and of registers, leave and take together.
use Rattle.std.proofs.Common.{◌≡◌, ◌∙◌, ◌+◌, ◌*◌, ◌<◌, ◌/◌, ◌||◌, ◌&&◌, ℕ, Bool, true, false, not, All, List, [], ◌∷◌, length, refl, sym, ap, subst, arith}
use Rattle.std.proofs.lemmas.Bool.{eq-eqb}
use Rattle.std.proofs.lemmas.List.Elements.{All-head, All-tail}
use Rattle.heap_model.specs.Blocks.{Span}
use Rattle.heap_model.specs.Quarantine.{with_epoch}
use Rattle.heap_model.specs.Sweep.{is_revoked, swept_cell, swept_granule, takes_tag}
use Rattle.tag_memory.specs.Cells.{Cell, Granule, cell_of}
use Rattle.trace_text.specs.declared.trace.Command.{Command}
use Rattle.heap_reply.specs.declared.reply.Reply.{Reply}
use Rattle.machine_steps.specs.State.{State}
use Rattle.machine_steps.specs.Step.{after_begin, begin_takes}
use Rattle.revoker_steps.specs.declared.command.RevokerCommand.TheVariants.{UntagGranule, Visit}
use Rattle.revoker_steps.specs.declared.command.RevokerReply.{RevokerReply}
use Rattle.revoker_steps.specs.declared.command.RevokerReply.TheVariants.{Cleared}
use Rattle.revoker_steps.specs.Events.{CoverMemory, CoverRegisters, IsAmong, Runs, cleared_by, cleared_in, is_at_one, is_in_one, is_one, register_untags, untags, visits}
use Rattle.revoker_steps.specs.Events.IsAmong.{first, later}
use Rattle.revoker_steps.specs.Revoker.{RevokerStep, after_paint, after_untag, after_untag_registers, is_at, is_in_page, is_register, untag_registers_takes, untag_takes}
use Rattle.revoker_steps.specs.ChangedLaws.{changed-all, changed-none, changed-same, changed-twice, count-all, count-changed, count-same, count-within}
use Rattle.revoker_steps.proofs.StepLaws.{Cleared-untag, Register-is, Visit-is, Visit-step}

-- ---- twice

cell_twice : (held : List Span) (c : Cell) → swept_cell held (swept_cell held c) ≡ swept_cell held c
cell_twice held c = λ j. (c.0, once c.1 (is_revoked held c.0) j) where
  once : (t r : Bool) → ((t && not r) && not r) ≡ (t && not r)
  once true true = refl
  once true false = refl
  once false r = refl

granule_twice : (held : List Span) (g : Granule) → swept_granule held (swept_granule held g) ≡ swept_granule held g
granule_twice held g = λ j. (g.0, once g.1 (is_revoked held (cell_of g).0) j) where
  once : (t r : Bool) → ((t && not r) && not r) ≡ (t && not r)
  once true true = refl
  once true false = refl
  once false r = refl

-- What lost its tag has none to lose.
pub spared_swept : (held : List Span) (c : Cell) → takes_tag held (swept_cell held c) ≡ false
spared_swept held c = none c.1 (is_revoked held c.0) where
  none : (t r : Bool) → ((t && not r) && r) ≡ false
  none true true = refl
  none true false = refl
  none false r = refl

-- Two untags are one, of the granules that pass either test.
pub untag-twice : (test other : ℕ → Bool) (s : State) → after_untag test (after_untag other s) ≡ after_untag (λ k. test k || other k) s
untag-twice test other s = λ j. record s { granules = changed-twice (swept_granule s.heap.painted) (granule_twice s.heap.painted) test other s.granules j }

pub untag-none : (s : State) → after_untag (λ _. false) s ≡ s
untag-none s = λ j. record s { granules = changed-none (swept_granule s.heap.painted) s.granules j }

takes-twice : (test other : ℕ → Bool) (s : State) → untag_takes test (after_untag other s) + untag_takes other s ≡ untag_takes (λ k. test k || other k) s
takes-twice test other s =
    count-changed (swept_granule s.heap.painted) (λ (g : Granule). takes_tag s.heap.painted (cell_of g)) (λ g. spared_swept s.heap.painted (cell_of g)) test other s.granules

takes-none : (s : State) → untag_takes (λ _. false) s ≡ 0
takes-none s = count-within (λ (g : Granule). takes_tag s.heap.painted (cell_of g)) (λ _. false) s.granules (λ i lt. refl)

registers-twice : (test other : ℕ → Bool) (s : State) → after_untag_registers test (after_untag_registers other s) ≡ after_untag_registers (λ k. test k || other k) s
registers-twice test other s = λ j. record s { registers = changed-twice (swept_cell s.heap.painted) (cell_twice s.heap.painted) test other s.registers j }

registers_takes-twice : (test other : ℕ → Bool) (s : State) → untag_registers_takes test (after_untag_registers other s) + untag_registers_takes other s ≡ untag_registers_takes (λ k. test k || other k) s
registers_takes-twice test other s = count-changed (swept_cell s.heap.painted) (takes_tag s.heap.painted) (spared_swept s.heap.painted) test other s.registers

-- ---- lists

-- What visits leave in an open epoch, and take together.
pub Runs-visits : (By : State → Command → Reply → State → Type 0) (pages : List (ℕ × RevokerReply)) (s new : State) → s.heap.is_open ≡ true → Runs By s (visits pages) new
    → (new ≡ after_untag (is_in_one pages) s) × (cleared_in pages ≡ untag_takes (is_in_one pages) s)
Runs-visits By [] s new opened run = (run ∙ sym (untag-none s), sym (takes-none s))
Runs-visits By (it ∷ pages) s new opened run =
    let here = Visit-is s it.0 it.1 run.0 opened run.1 in
    let rest = Runs-visits By pages run.0 new (ap (λ (t : State). t.heap.is_open) here.0 ∙ opened) run.2 in
    let taken : untag_takes (is_in_one pages) run.0 ≡ untag_takes (is_in_one pages) (after_untag (is_in_page it.0) s) = ap (untag_takes (is_in_one pages)) here.0 in (
      rest.0 ∙ ap (after_untag (is_in_one pages)) here.0 ∙ untag-twice (is_in_one pages) (is_in_page it.0) s,
      omega (arith, here.1, rest.1, taken, takes-twice (is_in_one pages) (is_in_page it.0) s),
    )

-- What untags leave that were answered so, and take together.
pub Runs-untags : (By : State → Command → Reply → State → Type 0) (granules : List (ℕ × RevokerReply)) (s new : State) → All (λ it. it.1 ≡ Cleared (cleared_by it.1)) granules → Runs By s (untags granules) new
    → (new ≡ after_untag (is_at_one s granules) s) × (cleared_in granules ≡ untag_takes (is_at_one s granules) s)
Runs-untags By [] s new all run = (run ∙ sym (untag-none s), sym (takes-none s))
Runs-untags By (it ∷ granules) s new all run =
    let cleared = All-head (λ (x : ℕ × RevokerReply). x.1 ≡ Cleared (cleared_by x.1)) it granules all in
    let here = Cleared-untag s it.0 (cleared_by it.1) run.0 (subst (λ (answer : RevokerReply). RevokerStep s (UntagGranule it.0) answer run.0) cleared run.1) in
    let later_all = All-tail (λ (x : ℕ × RevokerReply). x.1 ≡ Cleared (cleared_by x.1)) it granules all in
    let rest = Runs-untags By granules run.0 new later_all run.2 in
    let test : is_at_one run.0 granules ≡ is_at_one s granules = ap (λ (t : State). is_at_one t granules) here.1 ∙ same_places granules in
    let whole : after_untag (is_at_one run.0 granules) run.0 ≡ after_untag (is_at_one s granules) (after_untag (is_at s it.0) s) =
    ap (λ (t : ℕ → Bool). after_untag t run.0) test ∙ ap (after_untag (is_at_one s granules)) here.1 in
    let taken : untag_takes (is_at_one run.0 granules) run.0 ≡ untag_takes (is_at_one s granules) (after_untag (is_at s it.0) s) =
    ap (λ (t : ℕ → Bool). untag_takes t run.0) test ∙ ap (untag_takes (is_at_one s granules)) here.1 in (
      rest.0 ∙ whole ∙ untag-twice (is_at_one s granules) (is_at s it.0) s,
      omega (arith, here.2, rest.1, taken, takes-twice (is_at_one s granules) (is_at s it.0) s),
    ) where
      -- A place goes by the heap's base alone.
      same_places : (granules : List (ℕ × RevokerReply)) → is_at_one (after_untag (is_at s it.0) s) granules ≡ is_at_one s granules
      same_places [] = refl
      same_places (x ∷ rest) = λ j k. same_places rest j k || is_at s x.0 k

-- What untags of registers leave in an open epoch, and take together.
pub Runs-register_untags : (By : State → Command → Reply → State → Type 0) (registers : List (ℕ × RevokerReply)) (s new : State) → s.heap.is_open ≡ true → Runs By s (register_untags registers) new
    → (new ≡ after_untag_registers (is_one registers) s) × (cleared_in registers ≡ untag_registers_takes (is_one registers) s)
Runs-register_untags By [] s new opened run =
    (run ∙ (λ j. record s { registers = sym (changed-none (swept_cell s.heap.painted) s.registers) j }), sym (count-within (takes_tag s.heap.painted) (λ _. false) s.registers (λ i lt. refl)))
Runs-register_untags By (it ∷ registers) s new opened run =
    let here = Register-is s it.0 it.1 run.0 opened run.1 in
    let rest = Runs-register_untags By registers run.0 new (ap (λ (t : State). t.heap.is_open) here.0 ∙ opened) run.2 in
    let taken : untag_registers_takes (is_one registers) run.0 ≡ untag_registers_takes (is_one registers) (after_untag_registers (is_register it.0) s) = ap (untag_registers_takes (is_one registers)) here.0 in (
      rest.0 ∙ ap (after_untag_registers (is_one registers)) here.0 ∙ registers-twice (is_one registers) (is_register it.0) s,
      omega (arith, here.1, rest.1, taken, registers_takes-twice (is_one registers) (is_register it.0) s),
    )

-- ---- all of them

pub or_left : (a b : Bool) → a ≡ true → (a || b) ≡ true
or_left true b e = refl
or_left false b e = absurd cc

pub or_right : (a b : Bool) → b ≡ true → (a || b) ≡ true
or_right true b e = refl
or_right false b e = e

in_one : (pages : List (ℕ × RevokerReply)) (n i : ℕ) → i / 256 ≡ n → IsAmong pages n → is_in_one pages i ≡ true
in_one [] n i page among = elim among [ ]
in_one (it ∷ rest) n i page (first _ _ _ same) = or_right (is_in_one rest i) (is_in_page it.0 i) (eq-eqb (i / 256) it.0 (page ∙ sym same))
in_one (it ∷ rest) n i page (later _ _ _ among) = or_left (is_in_one rest i) (is_in_page it.0 i) (in_one rest n i page among)

one_of : (registers : List (ℕ × RevokerReply)) (r : ℕ) → IsAmong registers r → is_one registers r ≡ true
one_of [] r among = elim among [ ]
one_of (it ∷ rest) r (first _ _ _ same) = or_right (is_one rest r) (is_register it.0 r) (eq-eqb r it.0 (sym same))
one_of (it ∷ rest) r (later _ _ _ among) = or_left (is_one rest r) (is_register it.0 r) (one_of rest r among)

pub covers : (s : State) (pages : List (ℕ × RevokerReply)) → CoverMemory s pages → (i : ℕ) → i < length s.granules → is_in_one pages i ≡ true
covers s pages cover i lt = in_one pages (i / 256) i refl (cover (i / 256) (omega (arith, lt)))

pub covers_registers : (s : State) (registers : List (ℕ × RevokerReply)) → CoverRegisters s registers → (r : ℕ) → r < length s.registers → is_one registers r ≡ true
covers_registers s registers cover r lt = one_of registers r (cover r lt)

-- A paint, and then visits of all pages, is what begins an epoch.
pub begin-is : (s mid : State) (pages : List (ℕ × RevokerReply)) (By : State → Command → Reply → State → Type 0) (new : State) → CoverMemory s pages → mid ≡ after_paint s → Runs By mid (visits pages) new
    → (new ≡ after_begin s) × (cleared_in pages ≡ begin_takes s)
begin-is s mid pages By new cover painted run =
    let all = Runs-visits By pages mid new (ap (λ (t : State). t.heap.is_open) painted) run in
    let tests = covers s pages cover in
    let left : after_untag (is_in_one pages) (after_paint s) ≡ after_begin s = λ j. record s {
      heap = with_epoch s.heap;
      granules = changed-all (swept_granule s.heap.waiting) (is_in_one pages) s.granules tests j;
    } in (
      all.0 ∙ ap (after_untag (is_in_one pages)) painted ∙ left,
      all.1 ∙ ap (untag_takes (is_in_one pages)) painted ∙ count-all (λ (g : Granule). takes_tag s.heap.waiting (cell_of g)) (is_in_one pages) s.granules tests,
    )

-- Untags of a page's granules, in any order, are a visit of it.
pub visit_of_untags : (By : State → Command → Reply → State → Type 0) (s : State) (page : ℕ) (granules : List (ℕ × RevokerReply)) (new : State) → s.heap.is_open ≡ true → 256 * page < length s.granules
    → All (λ it. it.1 ≡ Cleared (cleared_by it.1)) granules → ((i : ℕ) → i < length s.granules → is_at_one s granules i ≡ is_in_page page i) → Runs By s (untags granules) new
    → RevokerStep s (Visit page) (Cleared (cleared_in granules)) new
visit_of_untags By s page granules new opened inside all tests run =
    let done = Runs-untags By granules s new all run in
    let same : after_untag (is_at_one s granules) s ≡ after_untag (is_in_page page) s =
    λ j. record s { granules = changed-same (swept_granule s.heap.painted) (is_at_one s granules) (is_in_page page) s.granules tests j } in
    let taken = count-same (λ (g : Granule). takes_tag s.heap.painted (cell_of g)) (is_at_one s granules) (is_in_page page) s.granules tests in
    Visit-step s page (cleared_in granules) new opened inside (done.1 ∙ taken) (done.0 ∙ same)
