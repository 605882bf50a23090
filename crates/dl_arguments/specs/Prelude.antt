-- The definitions that other crates cite, passed on from one place. Declares nothing.
pub use Rattle.dl_arguments.specs.Options.{most_cert_log2}
pub use Rattle.dl_arguments.specs.Words.{words_of}
