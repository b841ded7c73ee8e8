-- `console::lines::field` meets its contract: no field of six begins behind its end, or ends behind the line.
use Rattle.std.proofs.Common.{◌≡◌, ◌≤◌, ℕ, List, length, arith}
use Rattle.console.specs.Lines.{start_of, end_of}
use Rattle.console.specs.LineLaws.{start_end, end_of-last}
use Rattle.console.proofs.lines.field.Goals as goal

within : (line : List ℕ) (k : ℕ) {from to : ℕ} → k ≤ 5 → end_of line 5 ≡ length line → from ≡ start_of line k → to ≡ end_of line k → (from ≤ to) × (to ≤ length line)
within line k h e f t = (omega (arith, f, t, start_end line k), omega (arith, t, e, end_of-last line k h))

pub slice_bounds-result-count : goal.slice_bounds-result-count
slice_bounds-result-count c = (within c.args.line.now c.args.k c.requires.line_len_bound.1 c.requires.line_value c.start_of-from.ensures c.end_of-to.ensures).0

pub slice_bounds-result-start : goal.slice_bounds-result-start
slice_bounds-result-start c = (within c.args.line.now c.args.k c.requires.line_len_bound.1 c.requires.line_value c.start_of-from.ensures c.end_of-to.ensures).0

pub slice_bounds-result-end : goal.slice_bounds-result-end
slice_bounds-result-end c = (within c.args.line.now c.args.k c.requires.line_len_bound.1 c.requires.line_value c.start_of-from.ensures c.end_of-to.ensures).1
