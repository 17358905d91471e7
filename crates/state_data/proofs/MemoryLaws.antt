-- What is told of memory is what changed in it.
use Rattle.std.proofs.Common.{◌≡◌, ◌∙◌, ◌≢◌, ◌⊎◌, ◌<◌, ◌≤◌, ◌&&◌, ℕ, zero, suc, Bool, true, false, cond, drop, not, inl, inr, Option, Some, None, List, [], ◌∷◌, ◌++◌, if◌then◌else◌, append-nil, codes, length, get_or, refl, sym, ap, arith}
use Rattle.std.specs.List.{count_by}
use Rattle.std.proofs.lemmas.Bool.{cases_Bool, cases_eq, cases_lt, eq-eqb, lt-ltb, le-ltb, ne_eqb, true≢false}
use Rattle.std.proofs.lemmas.List.{get_or-map, get_or_past, length-map}
use Rattle.std.proofs.lemmas.List.Sums.{get_or-le-sum_by}
use Rattle.heap_model.specs.Blocks.{Span}
use Rattle.heap_model.specs.Heap.{due}
use Rattle.heap_model.specs.Laws.{due-closed}
use Rattle.machine_steps.specs.State.{State}
use Rattle.heap_reply.specs.declared.reply.Reply.{Reply}
use Rattle.heap_reply.specs.declared.reply.Reply.TheVariants.{Block, BlockAfter, NoSpace, NoSpaceAfter, Held, Done, Cleared, Swept, Begun, Shown, Trap}
use Rattle.json.specs.Token.{Token, begin_object, end_object, key}
use Rattle.heap_model.specs.Sweep.{is_revoked, swept_granule, swept_granules, takes_tag}
use Rattle.tag_memory.specs.Cells.{Cell, Granule, cell_of, null_cell, register_at, register_count}
use Rattle.tag_memory.specs.Tags.{is_set_for, is_tagged}
use Rattle.data_tokens.specs.Changes.{below, change_tokens, granule_change, granules_tokens, is_same, tag_change}
use Rattle.data_tokens.specs.Line.{list_tokens}
use Rattle.data_tokens.specs.Spans.{spans_of}
use Rattle.state_data.specs.States.{pass_tokens, tells_pass, tells_registers}
use Rattle.data_tokens.specs.Taken.{is_granule_taken, is_register_taken, is_tag_gone, none_taken, number_if, register_numbers, taken_tokens}
use Rattle.state_data.specs.Recording.{IsSnapshot, due_in_snapshot, granule_before, changed_granules_tokens, is_stale, taken_tags_tokens, takes_tags}
use Rattle.state_data.specs.declared.snapshot.Snapshot.{Snapshot}
use Rattle.data_tokens.specs.ChangeLaws.{change_tokens-same, is_same-itself, number_if-no, number_if-same}
use Rattle.state_data.proofs.Did.{Did, TellsTags}
use Rattle.state_data.proofs.Did.Did.{quiet, wrote, handed_out, gave_up, freed, freed_and_handed_out, began}

-- ---- lists of what numbers have

below_none : (f : ℕ → List Token) (n : ℕ) → ((k : ℕ) → k < n → f k ≡ []) → below f n ≡ []
below_none f zero none = refl
below_none f (suc n) none =
    (λ i. below f n ++ none n (omega arith) i) ∙ (append-nil (below f n) ∙ below_none f n (λ k lt. none k (omega (arith, lt))))

below_one : (f : ℕ → List Token) (n i : ℕ) → i < n → ((k : ℕ) → k < n → k ≢ i → f k ≡ []) → below f n ≡ f i
below_one f zero i lt none = absurd (omega (arith, lt))
below_one f (suc n) i lt none =
    elim (cases_eq i n) [
      | inl last ↦ (λ j. below_none f n (λ k before. none k (omega (arith, before)) (λ e. omega (arith, before, e, last))) j ++ f n) ∙ ap f (sym last)
      | inr other ↦
          (λ j. below f n ++ none n (omega arith) (λ e. other (sym e)) j)
          ∙ (append-nil (below f n) ∙ below_one f n i (omega (arith, lt, other)) (λ k before. none k (omega (arith, before))))
    ]

below_same : {X : Type 0} (f g : ℕ → List X) (n : ℕ) → ((k : ℕ) → k < n → f k ≡ g k) → below f n ≡ below g n
below_same f g zero same = refl
below_same f g (suc n) same = λ i. below_same f g n (λ k lt. same k (omega (arith, lt))) i ++ same n (omega arith) i

-- A granule that is as it was.
granule_change-none : (old new : List Granule) (k : ℕ) → get_or new k (0, false) ≡ get_or old k (0, false) → granule_change old new k ≡ []
granule_change-none old new k same =
    let was = cell_of (get_or old k (0, false)) in
    change_tokens-same (codes "i") k was (cell_of (get_or new k (0, false))) (ap (λ (g : Granule). is_same was (cell_of g)) same ∙ is_same-itself was)

-- ---- memory after a command

-- No tag was taken, and all granules are as they were but the one that may be written.
record AreKept (s : State) (w : Option ℕ) (r : Reply) (new : State) : Type 0 where
  pub tags : takes_tags r ≡ false
  pub count : length new.granules ≡ length s.granules
  pub same : (k : ℕ) → (w ≡ Some k → ⊥) → get_or new.granules k (0, false) ≡ get_or s.granules k (0, false)

-- A pass took tags, for the blocks that were due.
record AreSwept (s : State) (w : Option ℕ) (r : Reply) (new : State) : Type 0 where
  pub tags : takes_tags r ≡ true
  pub none : w ≡ None
  pub granules : new.granules ≡ swept_granules (due s.heap) s.granules

-- A pass was made, for the blocks that were due.
record IsPass (s : State) (w : Option ℕ) (r : Reply) (new : State) : Type 0 where
  pub pass : tells_pass r ≡ true
  pub none : w ≡ None
  pub tags : TellsTags s r
  pub granules : new.granules ≡ swept_granules (due s.heap) s.granules

-- No pass takes no tag.
no_tags : (r : Reply) → tells_pass r ≡ false → takes_tags r ≡ false
no_tags (Block base top) none = refl
no_tags (BlockAfter base top cleared) none = absurd (true≢false none)
no_tags NoSpace none = refl
no_tags (NoSpaceAfter cleared) none = absurd (true≢false none)
no_tags (Held bytes) none = refl
no_tags Done none = refl
no_tags Cleared none = refl
no_tags (Swept cleared released) none = absurd (true≢false none)
no_tags (Begun cleared) none = absurd (true≢false none)
no_tags (Shown shown) none = refl
no_tags (Trap trap) none = refl

kept : (s : State) (w : Option ℕ) (r : Reply) (new : State) → tells_pass r ≡ false → new.granules ≡ s.granules → AreKept s w r new
kept s w r new pass same = record {
  tags = no_tags r pass;
  count = ap length same;
  same = λ k _. ap (λ (granules : List Granule). get_or granules k (0, false)) same;
}

-- A command makes no pass and keeps granules, or makes one.
Did-pass : (s : State) (w : Option ℕ) (start : ℕ) (r : Reply) (new : State) → Did s w start r new → ((tells_pass r ≡ false) × AreKept s w r new) ⊎ IsPass s w r new
Did-pass s w start r new (quiet is granules heap) = inl (is.pass, kept s w r new is.pass granules)
Did-pass s w start r new (wrote i is_i is heap count elsewhere) =
    inl (is.pass, record { tags = no_tags r is.pass; count = count; same = λ k not_k. elsewhere k (λ e. not_k (is_i ∙ ap Some (sym e))) })
Did-pass s w start r new (handed_out size base top none is place end granules heap) = inl (ap tells_pass is, kept s w r new (ap tells_pass is) granules)
Did-pass s w start r new (gave_up base top none at is block granules heap) = inl (ap tells_pass is, kept s w r new (ap tells_pass is) granules)
Did-pass s w start r new (freed none is tags granules heap) = inr (record { pass = is.pass; none = none; tags = tags; granules = granules })
Did-pass s w start r new (freed_and_handed_out size base top cleared none is tags closed place end granules heap) =
    inr (record { pass = ap tells_pass is; none = none; tags = tags; granules = granules ∙ ap (λ (held : List Span). swept_granules held s.granules) (sym (due-closed s.heap closed)) })
Did-pass s w start r new (began cleared none is tags closed granules heap) =
    inr (record { pass = ap tells_pass is; none = none; tags = tags; granules = granules ∙ ap (λ (held : List Span). swept_granules held s.granules) (sym (due-closed s.heap closed)) })

-- ---- a pass that takes nothing

of_none : (b : Bool) → cond b 1 0 ≤ 0 → b ≡ false
of_none true some = absurd (omega (arith, some))
of_none false some = refl

-- Where none passes the test, no place has one that does.
none_counted : {X : Type 0} (test : X → Bool) (xs : List X) (none : X) → count_by test xs ≡ 0 → test none ≡ false → (k : ℕ) → test (get_or xs k none) ≡ false
none_counted test xs none count not_none k =
    elim (cases_lt k (length xs)) [
      | inl inside ↦ of_none (test (get_or xs k none)) (omega (arith, get_or-le-sum_by (λ x. cond (test x) 1 0) xs k none inside, count))
      | inr past ↦ ap test (get_or_past xs k none past) ∙ not_none
    ]

untaken : (tag revoked : Bool) → (tag && revoked) ≡ false → (tag && not revoked) ≡ tag
untaken true true none = absurd (true≢false none)
untaken true false none = refl
untaken false revoked none = refl

-- No granule, and no register if the pass looked at them.
no_granule : (s : State) (r : Reply) → TellsTags s r → takes_tags r ≡ false → (k : ℕ) → is_granule_taken (due s.heap) s.granules k ≡ false
no_granule s r tags none k = none_counted (λ g. takes_tag (due s.heap) (cell_of g)) s.granules (0, false) (tags.granules none) refl k

pass_kept : (s : State) (w : Option ℕ) (r : Reply) (new : State) → IsPass s w r new → takes_tags r ≡ false → AreKept s w r new
pass_kept s w r new is none = record {
  tags = none;
  count = ap length is.granules ∙ length-map s.granules (swept_granule (due s.heap));
  same = λ k _. elim (cases_lt k (length s.granules)) [
    | inl inside ↦
        let g = get_or s.granules k (0, false) in
        let tag : (g.1 && not (is_revoked (due s.heap) (cell_of g).0)) ≡ g.1 = untaken g.1 (is_revoked (due s.heap) (cell_of g).0) (no_granule s r is.tags none k) in
        ap (λ (xs : List Granule). get_or xs k (0, false)) is.granules
        ∙ (get_or-map (swept_granule (due s.heap)) s.granules k (0, false) (0, false) inside ∙ (λ i. (g.0, tag i)))
    | inr past ↦
        get_or_past new.granules k (0, false) (omega (arith, past, ap length is.granules, length-map s.granules (swept_granule (due s.heap)))) ∙ sym (get_or_past s.granules k (0, false) past)
  ];
}

Did-memory : (s : State) (w : Option ℕ) (start : ℕ) (r : Reply) (new : State) → Did s w start r new → AreKept s w r new ⊎ AreSwept s w r new
Did-memory s w start r new did =
    elim (Did-pass s w start r new did) [
      | inl are ↦ inl are.1
      | inr is ↦ elim (cases_Bool (takes_tags r)) [
        | inl some ↦ inr (record { tags = some; none = is.none; granules = is.granules })
        | inr none ↦ inl (pass_kept s w r new is none)
      ]
    ]

-- ---- granules

-- Where no tag was taken, nothing is told of a granule that wasn't written.
told_none : (r : Reply) (tags : List ℕ) (granules : List Granule) → takes_tags r ≡ false → changed_granules_tokens None r tags granules ≡ []
told_none r tags granules pass = rw pass refl

some_is : {a b : ℕ} → Some a ≡ Some b → a ≡ b
some_is e = ap value e where
  value : Option ℕ → ℕ
  value (Some n) = n
  value None = 0

none_is : (k : ℕ) → None ≡ Some k → ⊥
none_is k e = cc

kept_all : (s : State) (r : Reply) (tags : List ℕ) (new : State) → AreKept s None r new → changed_granules_tokens None r tags new.granules ≡ granules_tokens s.granules new.granules
kept_all s r tags new are =
    told_none r tags new.granules are.tags ∙ sym (below_none (granule_change s.granules new.granules) (length new.granules) (λ k lt. granule_change-none s.granules new.granules k (are.same k (none_is k))))

kept_but_one : (s : State) (i : ℕ) (r : Reply) (tags : List ℕ) (new : State) → AreKept s (Some i) r new
    → changed_granules_tokens (granule_before s (Some i)) r tags new.granules ≡ granules_tokens s.granules new.granules
kept_but_one s i r tags new are =
    let change = granule_change s.granules new.granules in
    let other : (k : ℕ) → k ≢ i → granule_change s.granules new.granules k ≡ [] = λ k not_i. granule_change-none s.granules new.granules k (are.same k (λ e. not_i (sym (some_is e)))) in
    elim (cases_lt i (length s.granules)) [
      | inl lt ↦ rw (lt-ltb i (length s.granules) lt) (sym (below_one change (length new.granules) i (omega (arith, lt, are.count)) (λ k _ not_i. other k not_i)))
      | inr past ↦
          rw (le-ltb i (length s.granules) past)
          (told_none r tags new.granules are.tags ∙ sym (below_none change (length new.granules) (λ k lt. other k (λ e. omega (arith, lt, past, e, are.count)))))
    ]

-- After a pass the bytes are as before, and the tags before are those of the words.
swept_change : (s : State) (tags : List ℕ) (new : State) (k : ℕ) → new.granules ≡ swept_granules (due s.heap) s.granules → k < length s.granules → is_set_for tags k ≡ is_tagged s.granules k
    → tag_change tags new.granules k ≡ granule_change s.granules new.granules k
swept_change s tags new k granules lt bit =
    let held = due s.heap in
    let is : get_or new.granules k (0, false) ≡ swept_granule (due s.heap) (get_or s.granules k (0, false)) =
    ap (λ (xs : List Granule). get_or xs k (0, false)) granules ∙ get_or-map (swept_granule held) s.granules k (0, false) (0, false) lt in
    let number : (get_or new.granules k (0, false)).0 ≡ (get_or s.granules k (0, false)).0 = ap (λ (g : Granule). g.0) is in
    λ i. change_tokens (codes "i") k (cell_of (number i, bit i)) (cell_of (get_or new.granules k (0, false)))

pub changed_granules_tokens-is : (s : State) (w : Option ℕ) (start : ℕ) (r : Reply) (tags : List ℕ) (new : State) → Did s w start r new
    → ((i : ℕ) → i < length s.granules → is_set_for tags i ≡ is_tagged s.granules i)
    → changed_granules_tokens (granule_before s w) r tags new.granules ≡ granules_tokens s.granules new.granules
changed_granules_tokens-is s w start r tags new did bits =
    elim (Did-memory s w start r new did) [
      | inl are ↦ by w are
      | inr are ↦
          rw (are.none, are.tags)
          (below_same (tag_change tags new.granules) (granule_change s.granules new.granules) (length new.granules) (λ k lt.
          let inside : k < length s.granules = omega (arith, lt, ap length are.granules, length-map s.granules (swept_granule (due s.heap))) in
          swept_change s tags new k are.granules inside (bits k inside)))
    ] where
      by : (w : Option ℕ) → AreKept s w r new → changed_granules_tokens (granule_before s w) r tags new.granules ≡ granules_tokens s.granules new.granules
      by None are = kept_all s r tags new are
      by (Some i) are = kept_but_one s i r tags new are

-- ---- tags

pub count-is : (s : State) (w : Option ℕ) (start : ℕ) (r : Reply) (new : State) → Did s w start r new → length new.granules ≡ length s.granules
count-is s w start r new did =
    elim (Did-memory s w start r new did) [
      | inl are ↦ are.count
      | inr are ↦ ap length are.granules ∙ length-map s.granules (swept_granule (due s.heap))
    ]

-- A granule that isn't the one written, and after no pass, has its tag.
pub tag-kept : (s : State) (w : Option ℕ) (start : ℕ) (r : Reply) (new : State) → Did s w start r new
    → (k : ℕ) → k < length new.granules → is_stale (granule_before s w) r k ≡ false → is_tagged new.granules k ≡ is_tagged s.granules k
tag-kept s w start r new did k lt fresh =
    elim (Did-memory s w start r new did) [
      | inl are ↦ by w are fresh
      | inr are ↦ absurd (true≢false (sym are.tags ∙ (ap (λ (o : Option ℕ). is_stale (granule_before s o) r k) (sym are.none) ∙ fresh)))
    ] where
      by : (w : Option ℕ) → AreKept s w r new → is_stale (granule_before s w) r k ≡ false → is_tagged new.granules k ≡ is_tagged s.granules k
      by None are fresh = ap (λ (g : Granule). g.1) (are.same k (none_is k))
      by (Some i) are fresh =
          ap (λ (g : Granule). g.1) (are.same k (λ e. elim (cases_lt i (length s.granules)) [
            | inl inside ↦
                let stale : is_stale (granule_before s (Some i)) r k ≡ true = rw (lt-ltb i (length s.granules) inside) (eq-eqb k i (sym (some_is e))) in
                true≢false (sym stale ∙ fresh)
            | inr past ↦ omega (arith, lt, past, some_is e, are.count)
          ]))

-- ---- passes

pub due-snapshot : (snapshot : Snapshot) (s : State) → IsSnapshot snapshot s → spans_of snapshot.waiting.items ≡ s.heap.waiting → due_in_snapshot snapshot ≡ due s.heap
unfolding due
due-snapshot snapshot s is waiting = λ i. if is.is_open i then is.painted i else waiting i

gone_is_taken : (t r : Bool) → (t && not (t && not r)) ≡ (t && r)
gone_is_taken true true = refl
gone_is_taken true false = refl
gone_is_taken false r = refl

register_at-suc : (registers : List Cell) (k : ℕ) → register_at registers (suc k) ≡ get_or (drop 1 registers) k null_cell
register_at-suc registers k = ap (λ b. cond b null_cell (get_or registers (suc k) null_cell)) (ne_eqb (suc k) 0 (λ e. absurd (omega (arith, e)))) ∙ later registers where
  later : (cells : List Cell) → get_or cells (suc k) null_cell ≡ get_or (drop 1 cells) k null_cell
  later [] = refl
  later (x ∷ cells) = refl

register_numbers-none : (test : ℕ → Bool) → ((k : ℕ) → test k ≡ false) → register_numbers test ≡ []
unfolding register_numbers
register_numbers-none test none = below_none (number_if test) register_count (λ k lt. number_if-no test k (none k))

-- No register is told of, where none was taken.
no_register : (s : State) (r : Reply) → TellsTags s r → takes_tags r ≡ false → (looked : Bool) → tells_registers r ≡ looked → (k : ℕ)
    → (looked && is_register_taken (due s.heap) s.registers k) ≡ false
no_register s r tags none false looked k = refl
no_register s r tags none true looked zero = refl
no_register s r tags none true looked (suc k) =
    let at : register_at s.registers (suc k) ≡ get_or (drop 1 s.registers) k null_cell = register_at-suc s.registers k in
    ap (takes_tag (due s.heap)) at ∙ none_counted (takes_tag (due s.heap)) (drop 1 s.registers) null_cell (tags.registers none looked) refl k

none_told : (s : State) (r : Reply) → TellsTags s r → takes_tags r ≡ false
    → none_taken ≡ taken_tokens (λ k. tells_registers r && is_register_taken (due s.heap) s.registers k) (is_granule_taken (due s.heap) s.granules) (length s.granules)
none_told s r tags none =
    let register : ℕ → Bool = λ k. tells_registers r && is_register_taken (due s.heap) s.registers k in
    let granule : ℕ → Bool = is_granule_taken (due s.heap) s.granules in
    let registers : register_numbers (λ k. tells_registers r && is_register_taken (due s.heap) s.registers k) ≡ [] = register_numbers-none register (no_register s r tags none (tells_registers r) refl) in
    let granules : below (number_if (is_granule_taken (due s.heap) s.granules)) (length s.granules) ≡ [] =
    below_none (number_if granule) (length s.granules) (λ k lt. number_if-no granule k (no_granule s r tags none k)) in
    λ i. key (codes "taken") ∷ begin_object ∷ (list_tokens (codes "registers") (sym registers i) ++ (list_tokens (codes "granules") (sym granules i) ++ end_object ∷ []))

-- Where the pass took tags, those that are gone are those that it took.
swept_told : (s : State) (w : Option ℕ) (r : Reply) (snapshot : Snapshot) (new : State) → AreSwept s w r new → IsSnapshot snapshot s → due_in_snapshot snapshot ≡ due s.heap
    → taken_tokens (λ k. tells_registers r && is_register_taken (due_in_snapshot snapshot) snapshot.registers k) (is_tag_gone snapshot.tags.items new.granules) (length new.granules)
    ≡ taken_tokens (λ k. tells_registers r && is_register_taken (due s.heap) s.registers k) (is_granule_taken (due s.heap) s.granules) (length s.granules)
swept_told s w r snapshot new are is held =
    let count : length new.granules ≡ length s.granules = ap length are.granules ∙ length-map s.granules (swept_granule (due s.heap)) in
    let each : (k : ℕ) → k < length s.granules → is_tag_gone snapshot.tags.items new.granules k ≡ is_granule_taken (due s.heap) s.granules k =
    λ k lt.
    let tag : is_tagged new.granules k ≡ (is_tagged s.granules k && not (is_revoked (due s.heap) (cell_of (get_or s.granules k (0, false))).0)) =
    ap (λ (xs : List Granule). is_tagged xs k) are.granules ∙ ap (λ (g : Granule). g.1) (get_or-map (swept_granule (due s.heap)) s.granules k (0, false) (0, false) lt) in
    (λ i. is.bits k lt i && not (tag i)) ∙ gone_is_taken (is_tagged s.granules k) (is_revoked (due s.heap) (cell_of (get_or s.granules k (0, false))).0) in
    let granules : below (number_if (is_tag_gone snapshot.tags.items new.granules)) (length new.granules) ≡ below (number_if (is_granule_taken (due s.heap) s.granules)) (length s.granules) =
    ap (below (number_if (is_tag_gone snapshot.tags.items new.granules))) count
    ∙ below_same (number_if (is_tag_gone snapshot.tags.items new.granules)) (number_if (is_granule_taken (due s.heap) s.granules)) (length s.granules)
    (λ k lt. number_if-same (is_tag_gone snapshot.tags.items new.granules) (is_granule_taken (due s.heap) s.granules) k (each k lt)) in
    λ i. key (codes "taken") ∷ begin_object
    ∷ (list_tokens (codes "registers") (register_numbers (λ k. tells_registers r && is_register_taken (held i) (is.registers i) k))
    ++ (list_tokens (codes "granules") (granules i) ++ end_object ∷ []))

pub taken_tags_tokens-is : (s : State) (w : Option ℕ) (start : ℕ) (r : Reply) (snapshot : Snapshot) (new : State) → Did s w start r new → IsSnapshot snapshot s → (tells_pass r ≡ true → due_in_snapshot snapshot ≡ due s.heap)
    → taken_tags_tokens r snapshot new.granules ≡ pass_tokens r s
taken_tags_tokens-is s w start r snapshot new did is held =
    elim (Did-pass s w start r new did) [
      | inl are ↦ rw are.0 refl
      | inr pass ↦ elim (cases_Bool (takes_tags r)) [
        | inl some ↦ rw (pass.pass, some) (swept_told s w r snapshot new (record { tags = some; none = pass.none; granules = pass.granules }) is (held pass.pass))
        | inr none ↦ rw (pass.pass, none) (none_told s r pass.tags none)
      ]
    ]
