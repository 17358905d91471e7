use Rattle.std.proofs.Common.{◌≡◌, ◌≤◌, ◌+◌, ◌*◌, ◌/◌, inl, inr, suc, zero, ℕ, length, true, arith}
use Rattle.std.proofs.lemmas.Bool.{both_ways, cases_Bool}
use Rattle.heap_core.specs.Rows.{AreRows}
use Rattle.heap_core.specs.declared.rows.Rows.{Rows}
use Rattle.tag_memory.specs.Tags.{is_set_for}
use Rattle.heap_core.proofs.rows.Rows.due_part.Goals as goal

-- The page of a due granule is marked.
page_of_due : (r : Rows) → AreRows r → (k : ℕ) → is_set_for r.due.items k ≡ true → is_set_for r.due_pages.items (k / 256) ≡ true
page_of_due r rows k due = elim (cases_Bool (is_set_for r.due_pages.items (k / 256))) [
  | inl marked ↦ marked
  | inr clear ↦ absurd (both_ways _ (rows.marked k clear) due)
]

-- A place right behind a marked page, or 0, lies within the rows.
behind_marked : (r : Rows) → AreRows r → (e : ℕ) → ((k : ℕ) → e ≡ k + 1 → is_set_for r.due_pages.items k ≡ true) → 256 * e ≤ 64 * length r.due.items
behind_marked r rows zero marked = omega arith
behind_marked r rows (suc k) marked = omega (arith, rows.inside k (marked k (omega arith)), rows.whole, rows.due)

pub end_of_set-end-requires : goal.end_of_set-end-requires
end_of_set-end-requires c =
    let within = behind_marked c.args.self.now c.requires c.end_of_set-end_page.result (λ k is. rw (← c.deref-2.ensures.value) (c.end_of_set-end_page.ensures.one k is)) in
    rw c.deref-4.ensures.value within

pub returns : goal.returns
returns c =
    let marked = page_of_due c.args.self.now c.requires in
    record {
      from = λ k due.
          let page = c.first_set-first_page.ensures.before (k / 256) (omega arith) (rw c.deref.ensures.value (marked k due)) in
          c.first_set-first.ensures.before k (omega (arith, page)) (rw c.deref-3.ensures.value due);
      before = λ k due.
          let known = c.requires in
          let page = c.end_of_set-end_page.ensures.past (k / 256) (omega (arith, known.inside (k / 256) (marked k due), known.due_pages, c.len.ensures))
          (rw c.deref-2.ensures.value (marked k due)) in
          c.end_of_set-end.ensures.past k (omega (arith, page)) (rw c.deref-4.ensures.value due);
    }
