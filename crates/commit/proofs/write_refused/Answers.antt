-- The test on the sizes of the rows is the simple server's test of the store after the WRITE.
use Rattle.commit.proofs.Plain.{refused-by-size}
use Rattle.commit.proofs.write_refused.Goals as goal

pub returns : goal.returns
returns c = rw (c.fits.ensures, c.written_size.ensures) (refused-by-size c.requires.fine)
