-- `layout_state::read_state` meets its contract: each buffer is read from its eleven words.
use Rattle.layout.specs.Rows.{rows_in}
use Rattle.layout_state.proofs.read_state.Goals as goal

pub returns : goal.returns
unfolding rows_in
returns c =
    rw (
      c.read_buffer.ensures,
      c.read_buffer-2.ensures,
      c.read_buffer-3.ensures,
      c.read_buffer-4.ensures,
      c.read_buffer-5.ensures,
      c.read_buffer-6.ensures,
      c.read_buffer-7.ensures,
      c.read_buffer-8.ensures,
    )
