-- The words of a command line.
pub use Rattle.bus_options.specs.Words.{words_of}
