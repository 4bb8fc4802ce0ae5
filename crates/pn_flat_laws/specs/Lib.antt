pub mod AlikeNets
