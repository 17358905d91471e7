-- Registers whose tags are taken by a mask.
use Rattle.std.proofs.Common.{◌≡◌, ◌∙◌, ◌<◌, ◌&&◌, ℕ, cond, not, inl, inr, List, length, get_or, sym, ap, subst, arith}
use Rattle.std.proofs.lemmas.Bool.{cases_eq, ne_eqb}
use Rattle.std.proofs.lemmas.List.{ext_get_or, get_or-map, length-map}
use Rattle.heap_model.specs.Sweep.{is_revoked, swept_cell, swept_cells, takes_tag}
use Rattle.tag_memory.specs.Cells.{Cell, null_cell, register_at, without_tag_if}
use Rattle.tag_memory.specs.Tags.{is_set}
use Rattle.heap_model.specs.Blocks.{Span}
use Rattle.machine_storage.proofs.SweptMemory.{and_not}

-- Registers cleared by the mask of a sweep are the registers swept, where register 0 is null.
pub registers-swept : (held : List Span) (old new : List Cell) (mask : ℕ)
    → length old ≡ 32 → get_or old 0 null_cell ≡ null_cell → ((r : ℕ) → r < 32 → is_set mask r ≡ takes_tag held (register_at old r))
    → length new ≡ 32 → get_or new 0 null_cell ≡ get_or old 0 null_cell
    → ((r : ℕ) → 0 < r → r < 32 → get_or new r null_cell ≡ without_tag_if (is_set mask r) (get_or old r null_cell))
    → new ≡ swept_cells held old
registers-swept held old new mask count null bits long zero cells =
    ext_get_or null_cell new (swept_cells held old) (long ∙ sym (length-map old (swept_cell held) ∙ count))
    (λ r lt.
    let within : r < length old = omega (arith, lt, long, count) in
    let wanted = sym (get_or-map (swept_cell held) old r null_cell null_cell within) in
    elim (cases_eq r 0) [
      | inl first ↦
          subst (λ (i : ℕ). get_or new i null_cell ≡ swept_cell held (get_or old i null_cell)) (sym first)
          (zero ∙ (null ∙ ap (swept_cell held) (sym null))) ∙ wanted
      | inr later ↦
          let c = get_or old r null_cell in
          let read : register_at old r ≡ get_or old r null_cell = ap (λ b. cond b null_cell (get_or old r null_cell)) (ne_eqb r 0 later) in
          let hit : is_set mask r ≡ (c.1 && is_revoked held c.0) =
          bits r (omega (arith, within, count)) ∙ ap (takes_tag held) read in
          let t : (c.1 && not (is_set mask r)) ≡ (c.1 && not (is_revoked held c.0)) = ap (λ b. c.1 && not b) hit ∙ and_not c.1 (is_revoked held c.0) in
          cells r (omega arith) (omega (arith, within, count)) ∙ ((λ i. (c.0, t i)) ∙ wanted)
    ])
