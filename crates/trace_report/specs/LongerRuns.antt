-- Runs that go on by one step, their lines, and the outcome that they come to.
use Rattle.std.proofs.Common.{◌≡◌, ℕ, suc, map, arith, List, [], ◌∷◌, ◌++◌, length, refl, sym, ap, subst, ◌∙◌, append_assoc}
use Rattle.std.proofs.lemmas.List.{append-nil, map_push, length-map}
use Rattle.trace_text.specs.declared.trace.Command.{Command}
use Rattle.trace_text.specs.Reading.{Script}
use Rattle.heap_reply.specs.declared.reply.Reply.{Reply}
use Rattle.trace_report.specs.declared.outcome.Outcome.{Outcome}
use Rattle.trace_report.specs.Outcome.{IsOutcome}
use Rattle.trace_report.specs.Report.{end_text, line_text, lines_text}
use Rattle.trace_report.specs.Run.{IsSafeRun, Run, Reported}
use Rattle.machine_steps.specs.Safety.{IsReuseSafe, IsSafe}
use Rattle.machine_steps.specs.State.{State, first_state}
use Rattle.machine_steps.specs.Step.{Step}

Run-push : (old : State) (cs : List Command) (rs : List Reply) (mid : State) (c : Command) (r : Reply) (new : State)
    → Run old cs rs mid → Step mid c r new → Run old (cs ++ c ∷ []) (rs ++ r ∷ []) new
Run-push old [] [] mid c r new run step = (new, subst (λ (s : State). Step s c r new) run step, refl)
Run-push old [] (y ∷ rs) mid c r new run step = absurd run
Run-push old (x ∷ cs) [] mid c r new run step = absurd run
Run-push old (x ∷ cs) (y ∷ rs) mid c r new run step = (run.0, run.1, Run-push run.0 cs rs mid c r new run.2 step)

-- Safe runs go on by a step that keeps the state safe.
IsSafeRun-push : (old : State) (cs : List Command) (rs : List Reply) (mid : State) (c : Command) (r : Reply) (new : State)
    → (run : Run old cs rs mid) → IsSafeRun old cs rs mid run → (step : Step mid c r new) → IsReuseSafe mid c r new → IsSafe new
    → IsSafeRun old (cs ++ c ∷ []) (rs ++ r ∷ []) new (Run-push old cs rs mid c r new run step)
unfolding Run-push
IsSafeRun-push old [] [] mid c r new run safe step unused kept =
    subst (λ (s : State). IsSafe s × IsReuseSafe s c r new × IsSafe new) run (safe, unused, kept)
IsSafeRun-push old [] (y ∷ rs) mid c r new run safe step unused kept = absurd run
IsSafeRun-push old (x ∷ cs) [] mid c r new run safe step unused kept = absurd run
IsSafeRun-push old (x ∷ cs) (y ∷ rs) mid c r new run safe step unused kept =
    (safe.0, safe.1, IsSafeRun-push run.0 cs rs mid c r new run.2 safe.2 step unused kept)

Run-length : (old : State) (cs : List Command) (rs : List Reply) (new : State) → Run old cs rs new → length rs ≡ length cs
Run-length old [] [] new run = refl
Run-length old [] (y ∷ rs) new run = absurd run
Run-length old (x ∷ cs) [] new run = absurd run
Run-length old (x ∷ cs) (y ∷ rs) new run = ap suc (Run-length run.0 cs rs new run.2)

lines_text-push : (items : List (ℕ × Command)) (rs : List Reply) (c : ℕ × Command) (r : Reply) → length rs ≡ length items
    → lines_text (items ++ c ∷ []) (rs ++ r ∷ []) ≡ lines_text items rs ++ line_text c.0 c.1 r
lines_text-push [] [] c r e = append-nil (line_text c.0 c.1 r)
lines_text-push [] (y ∷ rs) c r e = absurd (omega arith)
lines_text-push (x ∷ items) [] c r e = absurd (omega arith)
lines_text-push (x ∷ items) (y ∷ rs) c r e =
    let e' : length rs ≡ length items = omega arith in
    ap (λ (t : List ℕ). line_text x.0 x.1 y ++ t) (lines_text-push items rs c r e') ∙ sym (append_assoc (line_text x.0 x.1 y) (lines_text items rs) (line_text c.0 c.1 r))

-- A run, and that it is safe.
abbrev SafeRun : State → List Command → List Reply → State → Type 0
SafeRun first cs rs new = (run : Run first cs rs new) × IsSafeRun first cs rs new run

pub Told-none : (first : State) → IsSafe first → Reported first [] first []
Told-none first safe = record { replies = []; run = refl; safe = safe; lines = refl }

pub Told-push : (first : State) (items : List (ℕ × Command)) (mid new : State) (text more : List ℕ) (c : ℕ × Command) (r : Reply)
    → Reported first items mid text → Step mid c.1 r new → IsReuseSafe mid c.1 r new → IsSafe new → more ≡ text ++ line_text c.0 c.1 r → Reported first (items ++ c ∷ []) new more
Told-push first items mid new text more c r told step unused safe e =
    let cs : List Command = map (λ (x : ℕ × Command). x.1) items in
    let same : length told.replies ≡ length items = Run-length first cs told.replies mid told.run ∙ length-map items (λ (x : ℕ × Command). x.1) in
    let longer : SafeRun first (map (λ (x : ℕ × Command). x.1) (items ++ c ∷ [])) (told.replies ++ r ∷ []) new =
    subst (λ (xs : List Command). SafeRun first xs (told.replies ++ r ∷ []) new) (sym (map_push (λ (x : ℕ × Command). x.1) items c))
    (Run-push first cs told.replies mid c.1 r new told.run step, IsSafeRun-push first cs told.replies mid c.1 r new told.run told.safe step unused safe) in
    record {
      replies = told.replies ++ r ∷ [];
      run = longer.0;
      safe = longer.1;
      lines = e ∙ (ap (λ (t : List ℕ). t ++ line_text c.0 c.1 r) told.lines ∙ sym (lines_text-push items told.replies c r same));
    }

-- A told run from the first state, with the last line, is an outcome.
pub IsOutcome-told : (script : Script) (o : Outcome) (first last : State) (text : List ℕ) → Reported first script.commands last text → first ≡ first_state script.base script.pages
    → o.report.items ≡ text ++ end_text last → o.registers ≡ last.registers → o.memory.base ≡ last.heap.base → o.memory.granules ≡ last.granules → IsOutcome script o
IsOutcome-told script o first last text told from report registers base granules =
    let whole = subst (λ (s : State). Reported s script.commands last text) from told in
    record {
      replies = whole.replies;
      last = last;
      run = whole.run;
      safe = whole.safe;
      report = report ∙ ap (λ (t : List ℕ). t ++ end_text last) whole.lines;
      registers = registers;
      base = base;
      granules = granules;
    }
