use Rattle.std.proofs.Common.{◌≡◌, ◌∙◌, ◌++◌, List, ap, subst}
use Rattle.std.specs.Prelude.{IfOk}
use Rattle.json.specs.Token.{Token}
use Rattle.data_tokens.specs.Line.{LineState}
use Rattle.state_data.specs.States.{end_tokens, data_line_text}
use Rattle.state_data.proofs.recording.write_end.Goals as goal

pub returns : goal.returns
returns c =
    let tokens : c.put_end_line.new.line.tokens ≡ end_tokens c.args.machine.now.state =
    ap (λ (line : LineState). line.tokens) c.in_ok-put_end_line.ensures ∙ ap (λ (line : LineState). line.tokens ++ end_tokens c.args.machine.now.state) c.within-line.ensures in
    subst (λ (ts : List Token). IfOk c.with_line.result (λ told. told.text.items ≡ c.args.so_far.text.items ++ data_line_text ts)) tokens c.with_line.ensures
